-- Definitions: what the check counts of rows' operands, its answer, and where a fault is.
pub mod Marked
pub mod Answers
pub mod Located
