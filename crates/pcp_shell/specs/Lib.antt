pub mod Ports
pub mod Sources
