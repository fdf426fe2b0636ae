-- Why the built graph answers the question.
--     Out        the list of a state's transitions
--     Targets    what holds of each target of a row's hyperedges
--     Stands     which edges stand in the built graph
--     Blocks     why a node of the built graph is at most d after a round
--     Sound      a number in any round is no empty promise
--     Complete   where a formula holds, an assignment that obeys the rules is 0
--     Verdict    settled rounds have 0 where the formula holds, and infinity where not
--     Built      the built graph is well-formed where it fits
--     Depths     no cycle of the built graph passes through a cover edge, so its count is at most its number of nodes
pub mod Out
pub mod Targets
pub mod Stands
pub mod Blocks
pub mod Sound
pub mod Complete
pub mod Verdict
pub mod Built
pub mod Depths
