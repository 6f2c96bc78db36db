pub mod Records
pub mod Calls
pub mod Lists
pub mod Promised
