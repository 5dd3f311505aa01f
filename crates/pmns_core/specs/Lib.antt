pub mod Adding
pub mod Below
pub mod Order
pub mod Pairs
pub mod Tables
