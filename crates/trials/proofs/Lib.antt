-- Laws of sums and lines.
--     Adding        sums over lists put together
--     Gathering     a line with more behind it
pub mod Adding
pub mod Gathering
