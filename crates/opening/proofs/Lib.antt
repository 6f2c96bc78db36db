pub mod Passing
pub mod Listing
pub mod Planning
