-- Definitions: what is noted for the slots of nodes, and what is marked.
pub mod Index
