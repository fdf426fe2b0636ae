-- Definitions: a row's fields told as numbers, and what is kept of a row.
pub mod Told
pub mod Kept
