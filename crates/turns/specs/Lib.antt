-- Definitions: the outcome, and what the room holds where a turn begins.
pub mod Outcome
pub mod Turns
