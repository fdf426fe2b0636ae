-- Laws of the lines that the program writes.
--     Lines      the parts of a line, and how long a line is at most
--     Texts      the text of a formula in the front of the room, and the lines of a settled question
pub mod Lines
pub mod Texts
