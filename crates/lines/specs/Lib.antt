-- The definitions that the contracts cite.
pub mod Written
pub mod Rows
pub mod Printed
pub mod Laws
