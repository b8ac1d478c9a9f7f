pub mod Plot
pub mod Money
pub mod Label
pub mod Promises
