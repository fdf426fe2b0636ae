-- Definitions: the text of a formula, and of the rows of a message.
pub mod Text
pub mod Rows
