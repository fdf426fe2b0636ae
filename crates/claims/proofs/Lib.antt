-- How the checker knows that claims are accepted.
--     Marking    what a scan finds edge by edge is found of all edges
--     Scanning   what the scans of hyperedges and of cover edges find
--     Checking   what a scan of all edges says of the claims
--     Answering  what the checker answers, from what was found
--     One        one answer of each public function
pub mod Marking
pub mod Scanning
pub mod Checking
pub mod Answering
pub mod One
