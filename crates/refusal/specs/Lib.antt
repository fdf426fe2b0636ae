-- Definitions: the numbers given back.
pub mod Number
