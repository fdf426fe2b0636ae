-- Definitions: the lines of a batch, the rooms that a call lends, and sums of bytes.
pub mod Lines
pub mod Rooms
pub mod Sums
