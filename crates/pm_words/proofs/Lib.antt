pub mod Asked
mod AskedNames
pub mod Coherent
mod Components
pub mod Recovering
pub mod Sending
pub mod Serving
pub mod Telling
pub mod Unreadable
