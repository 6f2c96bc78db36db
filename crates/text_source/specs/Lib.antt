pub mod Refusals
pub mod Grouped
pub mod Fills
pub mod Fitting
