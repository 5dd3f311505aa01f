pub mod Refusals
pub mod Ends
pub mod Good
pub mod Laws
pub mod Facts
