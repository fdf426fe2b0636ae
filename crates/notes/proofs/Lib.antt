-- Laws of what is noted and marked.
--     Noting     noting records for the slots of their targets
--     Publishing the first half is brought up to the second, and what may change with it is marked
pub mod Noting
pub mod Publishing
