-- Definitions: bytes, fields, readings and writings that all messages share, and where a fault lies.
pub mod Bytes
pub mod Field
pub mod Read
pub mod Reader
pub mod Runs
pub mod Start
pub mod Counts
pub mod Write
pub mod Layout
pub mod Begin
pub mod Laid
pub mod Located
