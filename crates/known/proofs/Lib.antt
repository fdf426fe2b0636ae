-- What the paper knows.
--     Table      T1 to T15 are as the paper says: one table, one claim; and G is written in its 62 bytes
--     Messages   the messages of model M and of T13 to T15 read back as themselves
--     Verdicts   on model M, T13 to T15 hold and fail as the paper says
--     Premise    T12's graph has a cycle through its cover edge, and its count is above n
--     Ranks      T12's true values have no ranks with which they are accepted
pub mod Table
pub mod Messages
pub mod Verdicts
pub mod Premise
pub mod Ranks
