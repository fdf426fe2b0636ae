-- Definitions: what is taken in along chains.
pub mod Taken
