pub mod Reading
pub mod Grouping
pub mod Answering
