-- Definitions: how far what targets give stays below infinity.
pub mod Below
