-- Definitions: how much room hyperedges take.
pub mod Size
