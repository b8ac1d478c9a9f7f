pub mod Outcome
pub mod Walk
pub mod Range
pub mod Summary
pub mod Promises
