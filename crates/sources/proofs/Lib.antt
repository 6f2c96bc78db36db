pub mod Tables
pub mod Keeping
pub mod Layers
pub mod Adding
pub mod Turns
pub mod Piled
pub mod Piling
