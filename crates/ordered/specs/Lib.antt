-- Definitions: records in order.
pub mod Ordered
