-- Definitions: how ranks are given.
pub mod Ranking
