pub mod Refusals
pub mod Lists
pub mod Orders
pub mod Laws
pub mod Worked
