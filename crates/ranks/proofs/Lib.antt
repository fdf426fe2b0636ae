-- What the writer leaves.
--     Filling    the rooms of the writer
--     Answering  what the writer answers, from what was found
--     One        one answer of each public function, but for the choice of ranks
--     Together   of what the writer writes the checker says yes
pub mod Filling
pub mod Answering
pub mod One
pub mod Together
