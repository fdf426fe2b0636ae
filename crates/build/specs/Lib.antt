-- Definitions: the answer of the builder, what a writer lays in state by state, and how many hyperedges so many bytes are.
pub mod Built
pub mod Told
pub mod Puts
