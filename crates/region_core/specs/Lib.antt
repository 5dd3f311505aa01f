pub mod Shape
pub mod State
pub mod Gate
pub mod Journal
pub mod Events
pub mod Replay
pub mod Readings
pub mod Laws
