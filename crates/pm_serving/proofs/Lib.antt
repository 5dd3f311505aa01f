pub mod Facts
pub mod Ordered
pub mod Room
