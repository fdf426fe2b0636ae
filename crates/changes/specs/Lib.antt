-- Definitions: what is listed.
pub mod Listed
