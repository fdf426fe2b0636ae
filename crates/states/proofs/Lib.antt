-- Laws of the whole question.
--     Fitting    the message of a built graph that passes no limit is read back
--     Deciding   yes exactly when the state satisfies the formula by its maximal runs
--     Finished   what an answer says of the graph and the two rooms, and how the verdict on a state is read there
--     Promised   what the customer is promised follows from the definitions
--     Building   the graph alone: what is answered, what is left in the room, and what is promised of it
--     Answering  what is shown of a call, exit by exit
--     Budget     its number is answered exactly where all that is asked for before it is good and the count is greater than the budget
--     Laws       a budget that always settles, budgets that settle agree, and one question that the messages write
--     One        one answer of each public function
pub mod Fitting
pub mod Deciding
pub mod Finished
pub mod Promised
pub mod Building
pub mod Answering
pub mod Budget
pub mod Laws
pub mod One
