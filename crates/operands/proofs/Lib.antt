-- Laws of a row's reading.
--     Operators  one by one, and which fields each kind of them uses
--     Spared     a row's fields told as numbers, those that its operator doesn't use looked at together
--     Keeping    the operands of a row by the kind of its operator
pub mod Operators
pub mod Spared
pub mod Keeping
