-- Laws of formula messages.
--     Spelt      the fields that a row is written with
--     Judging    the tests of a row's fields, in terms of the row
--     Using      how a field that is used, or not, is read
--     Good       what a good reading says of the bytes
--     Bits       the bits of a number: one more that is set, and all below a place set
--     Marks      how often rows are operands: marks, and the rule of use
--     Begun      what a loop over rows has read, and what is left
--     Accepted   what an accepted message holds, by position
--     Answered   the reading from an answer
--     Exact      accepted messages are exactly the writings of well-formed rows
--     Sums       sums over a list and over a range of numbers
--     Trees      the rows are a tree: the formula of a row, the size of the root, the rows that it reaches
--     Located    a fault is of no field, or of one that starts inside the message
--     One        one answer of each public function
pub mod Spelt
pub mod Judging
pub mod Using
pub mod Good
pub mod Bits
pub mod Marks
pub mod Begun
pub mod Accepted
pub mod Answered
pub mod Exact
pub mod Sums
pub mod Trees
pub mod Located
pub mod One
