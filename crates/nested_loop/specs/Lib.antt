pub mod Refusals
pub mod Model
pub mod Loop
pub mod Machine
pub mod Said
pub mod Bags
pub mod Promises
pub mod Worked
