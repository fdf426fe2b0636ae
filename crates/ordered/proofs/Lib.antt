-- Laws of records in order.
--     Told       what a field that was read tells of the bytes
--     Left       what is left to be tested, turn by turn
--     Ordered    what is in order is read without a fault
--     One        one answer of each public function
pub mod Told
pub mod Left
pub mod Ordered
pub mod One
