pub mod Blocks
pub mod Adds
pub mod Walks
pub mod Reads
