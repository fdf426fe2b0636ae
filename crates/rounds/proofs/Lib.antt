-- Laws of the rounds in a room.
--     Promised   what the customer is promised follows from the definitions
--     Laws       what count is reported, when BUDGET is given, two budgets that settle
--     Budget     BUDGET has its number to itself
--     Begin      what is shown of a call, from what was found
--     One        one answer of each public function
pub mod Promised
pub mod Laws
pub mod Budget
pub mod Begin
pub mod One
