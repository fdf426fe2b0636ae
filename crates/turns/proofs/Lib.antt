-- Laws of turns.
--     Loop       the loop over rounds: how it begins, where a turn begins, how a turn ends, and a round of all records
--     One        one answer of each method of an outcome
pub mod Loop
pub mod One
