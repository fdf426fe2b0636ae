-- Laws of values and bounds.
--     Values     a value by the numbers that it is at most; the order; bounds
--     Peak       an element of a list whose value is the greatest
--     Stored     a stored number and the value that it means
--     Coded      a bound and the number that stands for it
--     One        one answer of each public function
pub mod Values
pub mod Peak
pub mod Stored
pub mod Coded
pub mod One
