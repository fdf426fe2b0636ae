-- Laws of what targets give.
--     Below      how far it stays below infinity: of one target, of two parts, a loop's turn
pub mod Below
