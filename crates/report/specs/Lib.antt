-- Definitions: the whole output of the program.
pub mod Output
