pub mod Remove
pub mod Doable
pub mod Frame
pub mod Promises
pub mod Mixture
pub mod Checks
pub mod Example
