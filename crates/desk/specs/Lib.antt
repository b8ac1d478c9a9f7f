pub mod Replies
pub mod Listing
pub mod Transcript
pub mod Serving
pub mod Sample
pub mod Clerk
pub mod Register
