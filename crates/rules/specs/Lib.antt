-- Definitions: graphs, rounds and counts; cycles through a cover edge, and the depths that the laws about them go by.
pub mod Graph
pub mod Rounds
pub mod Count
pub mod Walks
pub mod Depths
