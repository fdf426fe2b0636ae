-- Definitions: what the writer of claims answers; what it begins with.
pub mod Answers
pub mod Promise
pub mod Begun
