-- Laws of the builder.
--     Nodes      the edges of a node, from its state's transitions; rows one after another
--     Helpers    the hyperedges of helper nodes, and the loop over rows that lays them in
--     Covers     the bytes of cover edges, state by state and row by row
--     Parts      the message of a built graph, part by part, and what the tests before it is written say of it
--     Told       how many hyperedges a row has, told by how many bytes they take
--     Narrow     where no hyperedge is too large, no state has too many transitions
--     Writing    what the writing of a graph that passes no limit may rely on, and the limits one by one
--     One        one answer of each public function
pub mod Nodes
pub mod Helpers
pub mod Covers
pub mod Parts
pub mod Told
pub mod Narrow
pub mod Writing
pub mod One
pub mod Puts
