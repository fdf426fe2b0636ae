-- Definitions: systems, their runs, and when a state satisfies a formula by them.
pub mod Systems
pub mod Runs
pub mod Sat
