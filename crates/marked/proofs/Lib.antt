-- Laws of marked records.
--     Taking     a range of records is taken in, and another behind it
--     Marked     what is marked, and the long ones, are enough for the next round
pub mod Taking
pub mod Marked
