pub mod Truths
pub mod Lengths
pub mod Refusals
pub mod Separations
pub mod Placed
pub mod Laws
pub mod Worked
