-- Laws of linked places.
--     Linking    one place more: a target of a hyperedge, a cover edge
pub mod Linking
