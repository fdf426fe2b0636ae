-- Definitions: the bytes of a graph's parts.
pub mod Bytes
