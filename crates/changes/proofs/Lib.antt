-- Laws of what changed.
--     Listing    the nodes that changed, one more of a pass or of a record; the first half is brought up at them
pub mod Listing
