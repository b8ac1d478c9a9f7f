pub mod Near
pub mod Promises
