-- Definitions: words and decimal numbers as bytes, and what is written.
pub mod Decimal
pub mod Writer
