-- Laws of a round, record by record.
--     Going      a pass over the next round's numbers: a turn that stores one, a turn that stores none
--     Scan       a scan over the records of a message: a turn takes the next record in
--     Taken      a hyperedge taken in, from what its targets give
--     Next       with the hyperedges, with the cover edges: the round
--     Infinite   round 1: from an infinite half only a hyperedge without targets gives anything
pub mod Going
pub mod Scan
pub mod Taken
pub mod Next
pub mod Infinite
