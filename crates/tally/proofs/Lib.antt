-- Laws of the tally.
--     Spelled    a list by its places
--     Counting   the counts together, and one more of them
--     Answers    what entering answers, case by case
--     Sheets     the sheet of a history with one entry more
--     History    a tally that began at zero is the sheet of what was accepted
--     Tells      the report determines the tally
--     Known      known sheets
--     One        one answer of each public function
pub mod Spelled
pub mod Counting
pub mod Answers
pub mod Sheets
pub mod History
pub mod Tells
pub mod Known
pub mod One
