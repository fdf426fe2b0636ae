-- Laws of the library.
--     One        one answer of each exported function
pub mod One
