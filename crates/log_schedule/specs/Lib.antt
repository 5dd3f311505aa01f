pub mod Configuration
pub mod Instants
pub mod Scanning
pub mod Refusals
pub mod Steps
