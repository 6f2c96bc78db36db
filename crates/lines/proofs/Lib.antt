-- The lemmas that the answers and the crates above share.
pub mod Texts
pub mod Splits
pub mod Once
pub mod Decided
pub mod Printing
