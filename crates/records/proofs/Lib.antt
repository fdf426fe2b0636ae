-- Laws of edges laid into the room.
--     Edges      edges laid into the room one after another, and the loops over transitions that do so
--     Nearby     the loop over the transitions within a bound, which writes first and asks after
pub mod Edges
pub mod Nearby
