-- Definitions: what stored numbers mean, and what is done to the halves of a room.
pub mod Held
pub mod Room
