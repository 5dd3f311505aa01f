pub mod Fields
pub mod Loops
pub mod Once
pub mod Whole
