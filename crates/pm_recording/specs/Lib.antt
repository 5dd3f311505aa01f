pub mod Scripts
pub mod Recording
pub mod Ends
pub mod Good
pub mod Exact
pub mod Facts
