pub mod Parts
pub mod Turns
pub mod Appending
pub mod Meets
pub mod Keeping
