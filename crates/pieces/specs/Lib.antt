-- Definitions: the lines that the program writes, where the model ends in its input, and the pieces that the code makes.
pub mod Lines
pub mod Cut
pub mod Pieces
