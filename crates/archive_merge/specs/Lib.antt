pub mod Merging
pub mod Naming
pub mod Facts
pub mod Kept
pub mod Order
pub mod Laws
