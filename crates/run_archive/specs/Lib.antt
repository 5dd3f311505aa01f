pub mod Endings
pub mod Kept
pub mod Plans
pub mod Samples
pub mod Shown
pub mod Logging
pub mod Sampling
pub mod Outcomes
