-- Definitions: what the checker answers; what is known of the edges on the way.
pub mod Answers
pub mod Promise
pub mod Scans
pub mod Chain
