-- Laws of the numbers given back.
--     Numbers    they tell the refusals apart, and from OK and BUDGET
--     One        one answer of `Refusal::number`
pub mod Numbers
pub mod One
