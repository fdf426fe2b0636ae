-- Definitions: models, their messages, which are well-formed, the answer of the check, and where a fault can lie.
pub mod Model
pub mod Format
pub mod Message
pub mod Write
pub mod WellFormed
pub mod Answers
pub mod Located
