pub mod Columns
pub mod Request
pub mod Reply
pub mod Steps
pub mod Promises
pub mod Checks
