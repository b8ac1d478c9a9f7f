pub mod Calls
pub mod Tally
pub mod Script
