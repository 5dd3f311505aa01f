pub mod Levels
pub mod Counts
