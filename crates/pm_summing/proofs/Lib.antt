pub mod All
pub mod Coming
pub mod Endings
