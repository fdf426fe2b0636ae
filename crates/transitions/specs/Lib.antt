-- Definitions: what accepted messages hold, by position, and what a row looks at; and that what is known of them has one proof at most.
pub mod Held
pub mod Looked
pub mod Single
pub mod Views
