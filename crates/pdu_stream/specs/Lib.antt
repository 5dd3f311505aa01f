pub mod Front
pub mod Laws
pub mod Reading
pub mod State
pub mod Streams
