pub mod Bytes
pub mod Packing
pub mod Letters
