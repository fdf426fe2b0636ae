-- Definitions: the search from one node, and how long it can take.
pub mod State
pub mod Search
pub mod Limit
pub mod Standing
