pub mod Accepts
pub mod Named
pub mod Rest
pub mod Steps
pub mod Verdicts
