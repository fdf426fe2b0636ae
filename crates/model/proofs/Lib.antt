-- Laws of model messages.
--     Good       what a good reading says of the bytes
--     Ordered    transitions in order are read without a fault
--     Answered   the reading from an answer
--     Exact      accepted messages are exactly the writings of well-formed models
--     Bits       a label has no bit at p or above exactly when it is below 2 ^ p
--     Located    where a fault lies: a field starts there, nothing before it is to blame, and it can be mended
--     One        one answer of each public function
pub mod Good
pub mod Ordered
pub mod Answered
pub mod Exact
pub mod Bits
pub mod Located
pub mod One
