pub mod Quiet
pub mod Fetching
pub mod Delivering
pub mod Handling
pub mod Joining
