-- Definitions: depth labels, and what a pass makes of them.
pub mod Labels
