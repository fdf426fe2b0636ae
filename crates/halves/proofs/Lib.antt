-- Laws of the halves of a room.
--     Room       their numbers, where they are the same, clearing, bringing the first up to the second
pub mod Room
