pub mod Scripts
pub mod Serving
pub mod Ends
pub mod Facts
