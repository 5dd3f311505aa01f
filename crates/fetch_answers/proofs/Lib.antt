pub mod Blocks
pub mod Bounds
pub mod Found
pub mod Indexes
pub mod Numbers
pub mod SetsFit
pub mod Steps
