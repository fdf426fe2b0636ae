-- Laws of the verdict on a state.
--     One        one answer of `decide`
pub mod One
