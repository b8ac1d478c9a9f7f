pub mod Enter
pub mod Fine
pub mod Frame
pub mod Promises
pub mod Example
