-- Definitions: values, how they are stored, and how bounds are coded.
pub mod Value
pub mod Stored
pub mod Coded
