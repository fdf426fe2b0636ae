-- Laws of graph messages.
--     Good       what a good reading says of the bytes
--     Names      tests of many records at once: what passes is read without a fault
--     Near       hyperedges that are passed together: what passes is read without a fault
--     Accepted   what an accepted message holds, by position
--     Answered   the reading from an answer
--     Fused      a record whose fields pass the tests of the reading is what it gives
--     Turns      a turn of a loop over records, and where a record leads
--     Whole      the header, the hyperedges, the cover edges and nothing behind them are the whole reading
--     Exact      accepted messages are exactly the writings of well-formed graphs
--     Ready      an accepted message is ready to be worked on, and so is the writing of a well-formed graph
--     Viewed     the cover edges of records, from where they stand
--     Worst      the greatest weight plus value over targets, taken one by one
--     Located    where a fault lies: a field starts there, nothing before it is to blame, and it can be mended
--     One        one answer of each public function
pub mod Good
pub mod Names
pub mod Near
pub mod Accepted
pub mod Answered
pub mod Fused
pub mod Turns
pub mod Whole
pub mod Exact
pub mod Ready
pub mod Viewed
pub mod Worst
pub mod Located
pub mod One
