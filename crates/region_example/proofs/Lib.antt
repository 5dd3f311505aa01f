pub mod Slots
pub mod Adds
pub mod End
