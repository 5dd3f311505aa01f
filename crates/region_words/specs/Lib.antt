pub mod Images
pub mod Calls
