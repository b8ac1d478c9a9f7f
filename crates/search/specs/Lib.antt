pub mod Way
pub mod Descent
pub mod Find
pub mod Next
pub mod Span
pub mod Promises
