-- How labels find a cycle through a cover edge.
--     Labels     depth labels that are written over, and the cycle that they find
pub mod Labels
