-- Definitions: the promise.
pub mod Promise
