pub mod Regions
pub mod Runners
pub mod Running
pub mod Scripts
pub mod commands
