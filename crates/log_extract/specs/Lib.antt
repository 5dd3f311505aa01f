pub mod Sources
pub mod Judging
pub mod Cursors
pub mod Logging
pub mod Faults
pub mod Extracting
pub mod Laws
