pub mod Listing
pub mod Differences
pub mod Songs
pub mod Mapped
