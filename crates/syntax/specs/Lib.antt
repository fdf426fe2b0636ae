-- Definitions: formulas and rows, their messages, and which are well-formed.
pub mod Formula
pub mod Rows
pub mod Format
pub mod Message
pub mod Write
pub mod WellFormed
pub mod Layouts
