-- Laws of runs.
--     Proper       transitions lead to states: what a well-formed model has
--     Untils       what makes an until hold
--     Strategies   the run that a choice of steps leads along, and whether it ends
--     Walks        what an until makes of values that grow along a run by no more than its weights
--     Stopped      what holds at a state that no step leads on from
--     Unstopped    where there is none such, satisfaction is that by endless runs
pub mod Proper
pub mod Untils
pub mod Strategies
pub mod Walks
pub mod Stopped
pub mod Unstopped
