pub mod Shown
pub mod Branches
pub mod Bridge
pub mod Runs
