-- Definitions: the questions on model M, and the table of known graphs.
pub mod Questions
pub mod Table
