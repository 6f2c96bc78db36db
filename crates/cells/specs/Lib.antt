pub mod Codes
pub mod Kinds
pub mod Printed
pub mod Laws
