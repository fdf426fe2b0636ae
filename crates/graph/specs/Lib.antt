-- Definitions: what a graph message holds, the messages of graphs, which graphs are well-formed, the answer of the check, what work on an accepted
-- message relies on (and that it has one proof at most), the graph that a value of `view` holds, tests of many records at once, hyperedges that are passed
-- together, and where a fault can lie.
pub mod Stored
pub mod Format
pub mod Message
pub mod Write
pub mod WellFormed
pub mod Answers
pub mod Layouts
pub mod Ready
pub mod Single
pub mod Viewed
pub mod Names
pub mod Near
pub mod Located
