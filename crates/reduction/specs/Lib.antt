-- Definitions: the graph that is built, and the limits that its laws ask for.
pub mod Built
pub mod Fits
