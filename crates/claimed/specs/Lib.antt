-- Definitions: what is claimed of targets, and of all nodes.
pub mod Targets
