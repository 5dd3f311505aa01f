pub mod Events
pub mod Losing
pub mod OneArchive
pub mod Places
pub mod Finishing
pub mod Standing
pub mod Logging
pub mod Taken
