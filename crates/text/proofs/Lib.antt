-- Laws of the writing of a text.
--     Accepted   what an accepted message gives the writing of its text
--     Answers    the answer and the room in each of the three cases
--     Laws       the program's room is never too small
--     One        one answer of each public function
pub mod Accepted
pub mod Answers
pub mod Laws
pub mod One
