-- Laws of entries.
--     One        one answer of each public function
pub mod One
