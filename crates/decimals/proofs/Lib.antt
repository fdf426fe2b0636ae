-- Laws of decimal numbers, and of what is written one after another.
--     Decimal    decimal digits make their number, and end where the digits end
--     Writing    what is written one after another is written at once
--     One        one answer of each public function
pub mod Decimal
pub mod Writing
pub mod One
