pub mod Types
pub mod Laws
