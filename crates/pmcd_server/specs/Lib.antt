pub mod Draws
pub mod Places
pub mod Turns
pub mod Works
pub mod Crews
