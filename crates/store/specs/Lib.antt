pub mod Format
pub mod Head
pub mod Released
pub mod Tests
pub mod SetUp
pub mod Promises
pub mod Broken
