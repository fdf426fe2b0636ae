-- Laws of rows.
--     One        one answer of each public function
pub mod One
