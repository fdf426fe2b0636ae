-- Definitions: the tally, what entering does to it, the sheet of a history, and the numbers of the report.
pub mod Tally
pub mod Entered
pub mod History
pub mod Report
