pub mod Ends
pub mod Facts
