-- Laws of records on chains.
--     Chains     what the chains of the changed nodes lead to is enough for the next round
pub mod Chains
