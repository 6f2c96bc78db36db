pub mod Waiting
pub mod Met
pub mod Rests
