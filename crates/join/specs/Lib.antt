pub mod View
pub mod Sound
pub mod Handled
