-- Laws of tests and lists.
--     Tests      by whether a test is true; what a test of two parts says
--     Lists      tests over a list, how many pass, the first number that passes
--     Making     the elements of lists that are made by a test or number by number; the latter from the front, and their lengths
--     Kept       what a test keeps of a list
--     Places     elements by their places
--     Each       what holds of each element
--     Order      numbers that rise between two ends
--     Zeros      a list of zeros has zero everywhere
--     Apart      the bits in which numbers differ
pub mod Tests
pub mod Lists
pub mod Making
pub mod Kept
pub mod Places
pub mod Each
pub mod Order
pub mod Zeros
pub mod Apart
