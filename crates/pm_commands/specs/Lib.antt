pub mod Causes
pub mod Ends
pub mod Facts
pub mod Laws
pub mod Meanings
pub mod Running
