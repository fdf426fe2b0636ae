-- Definitions: lists, orders on them, and how they are made.
pub mod Lists
pub mod Order
pub mod Making
