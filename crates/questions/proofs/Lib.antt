-- Laws of questions.
--     Reading    the reading of a question, from the answers of the two checks; the messages of one that is read
pub mod Reading
