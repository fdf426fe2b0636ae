-- Definitions: the lines, and what writing them answers and leaves.
pub mod Lines
