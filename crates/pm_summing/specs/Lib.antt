pub mod Sums
pub mod Ends
pub mod Laws
pub mod Facts
