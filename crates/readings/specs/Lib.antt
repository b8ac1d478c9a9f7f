pub mod Listing
pub mod Clauses
pub mod Broken
pub mod Promises
