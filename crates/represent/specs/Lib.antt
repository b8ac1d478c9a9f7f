pub mod Labelled
pub mod Image
pub mod Rep
pub mod Example
pub mod Broken
pub mod Promises
