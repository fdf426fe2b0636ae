-- Definitions: the room while the records of a round are taken in.
pub mod Scan
