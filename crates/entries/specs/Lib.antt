-- Definitions: what is entered, and the entry of what a call returned.
pub mod Entries
pub mod Returned
