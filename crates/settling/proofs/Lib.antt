-- Laws of a question that is settled.
--     Settling   what building and settling gives is what the definitions say
--     One        one answer of each method of an answer
pub mod Settling
pub mod One
