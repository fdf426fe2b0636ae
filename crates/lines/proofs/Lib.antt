-- Laws of the report.
--     Lines      the lines of the report, and the answer in each case
--     One        one answer of each public function
pub mod Lines
pub mod One
