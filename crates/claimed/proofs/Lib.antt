-- Laws of what is claimed.
--     Targets    targets that are judged one by one
--     Blocks     a block of indices behind those before it
pub mod Targets
pub mod Blocks
