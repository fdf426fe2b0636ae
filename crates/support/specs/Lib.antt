-- Definitions: claims and when they are accepted; what an edge is to them.
pub mod Claims
pub mod Backing
