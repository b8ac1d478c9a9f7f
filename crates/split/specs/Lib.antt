pub mod Supply
pub mod Round
pub mod Frame
pub mod Insertion
pub mod Block
pub mod Value
pub mod Promises
