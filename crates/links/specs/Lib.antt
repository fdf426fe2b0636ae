-- Definitions: the places at which a node is a target, linked.
pub mod Links
