pub mod Cuts
pub mod Each
pub mod Marking
pub mod Pages
pub mod Taken
