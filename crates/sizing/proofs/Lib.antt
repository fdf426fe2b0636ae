-- Laws of sizes.
--     Untils     rows that are no until
--     Sizes      how much room hyperedges take, of a row and of all
--     Sums       sizes added up over the states
--     Whole      the size of a graph that is built, and of its message
--     Limits     what the limits say, one by one
pub mod Untils
pub mod Sizes
pub mod Sums
pub mod Whole
pub mod Limits
