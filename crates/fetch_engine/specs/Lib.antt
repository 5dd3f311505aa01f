pub mod Hows
pub mod Kept
pub mod Servers
pub mod Tries
pub mod Visits
