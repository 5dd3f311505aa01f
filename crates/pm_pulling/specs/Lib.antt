pub mod Stops
pub mod Pulling
pub mod Ends
pub mod Good
pub mod Laws
pub mod Facts
