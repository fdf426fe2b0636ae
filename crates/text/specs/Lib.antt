-- Definitions: the answer of writing the text of a formula.
pub mod Written
