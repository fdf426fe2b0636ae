-- Definitions: what a question answers, and what stands in both rooms.
pub mod Answer
