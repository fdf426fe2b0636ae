-- The theory of rounds on a graph whose named nodes all exist (`Closed`).
--     Reasons    why a node is at most k in a round: the only place that looks into the definition of a round
--     Order      rounds fall; a settled round is the largest assignment that obeys the rules, and there is one such only
--     Size       how large a finite value can be
--     Chain      a change comes from a change one round earlier
--     Count      the count is the first unchanged round, there is one such only, and it is at most n (c + 1)
--     Walks      walks one behind another; depths leave no cycle through a cover edge
--     Layers     with depths the count is at most n
--     Depths     depth labels: what makes one grow, and that labels which a pass leaves as they are lie in layers
--     Cycles     where no cycle passes through a cover edge there are depths, so the count is at most n
--     Skip       a part of a graph with every edge that gives something new gives the same next round, and leaves other nodes alone
pub mod Reasons
pub mod Order
pub mod Size
pub mod Chain
pub mod Count
pub mod Walks
pub mod Layers
pub mod Depths
pub mod Cycles
pub mod Skip
