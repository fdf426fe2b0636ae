-- Definitions: what a turn takes in.
pub mod Took
