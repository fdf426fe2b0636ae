-- What follows of an edge that is read.
--     Leading    where it leads
pub mod Leading
