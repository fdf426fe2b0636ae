-- Laws of the program's output.
--     Ended      what settling a question says of the output, exit by exit
--     Reported   what is shown of a report, exit by exit
--     Laws       a line says yes exactly when the state satisfies the formula, for an input that is read and settles
--     One        one answer of each public function
pub mod Ended
pub mod Reported
pub mod Laws
pub mod One
