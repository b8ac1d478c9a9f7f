pub mod Words
pub mod Steps
pub mod Blocks
pub mod Twins
