-- Definitions: the question, and what its check tells.
pub mod Question
pub mod Asking
