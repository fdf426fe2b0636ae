-- Why claims are accepted, and what a checker or a writer of claims goes by.
--     Accepted   accepted claims are the largest assignment that obeys the rules
--     Edgewise   claims checked edge by edge; how large a supported claim can be
--     Judging    what the numbers that were read say of an edge
--     Passing    a walk over the records of a message
pub mod Accepted
pub mod Edgewise
pub mod Judging
pub mod Passing
