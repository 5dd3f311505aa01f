pub mod All
pub mod Endings
