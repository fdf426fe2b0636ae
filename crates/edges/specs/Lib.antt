-- Definitions: what was found of an edge.
pub mod Found
