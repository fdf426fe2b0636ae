-- Laws of what accepted messages hold.
--     Holding    what accepted messages hold, by position
--     Counting   a loop that counts the records that pass a test
--     Sides      the action and the successor of a transition, read as one number
--     Ranges     with transitions in order, where each state's stand
--     Accepted   what accepted messages say of the model and the rows that they hold
pub mod Holding
pub mod Counting
pub mod Sides
pub mod Ranges
pub mod Accepted
