pub mod Node
pub mod Faults
pub mod Promises
