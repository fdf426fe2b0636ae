-- How the writer finds ranks that the checker accepts.
--     Puts       numbers in a room after one was stored
--     Ranks      ranks that rest on smaller ones, and that they reach every finite node
--     Giving     ranks given one after another
--     Standing   the passes that rank, and that they end with ranks that are accepted
pub mod Puts
pub mod Ranks
pub mod Giving
pub mod Standing
