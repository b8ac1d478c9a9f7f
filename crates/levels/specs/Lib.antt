pub mod Outcome
pub mod Levels
