-- Laws of the text of formulas.
--     Small      the numbers of an accepted formula are small
--     Length     how long a text is: 2,048 bytes suffice for an accepted formula
--     Tells      the text determines the formula
--     Known      the texts of the paper's examples
--     Rows       the text of a row is made of the texts of its operands
pub mod Small
pub mod Length
pub mod Tells
pub mod Known
pub mod Rows
