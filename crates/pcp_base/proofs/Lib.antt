pub mod Bytes
pub mod Components
pub mod Orders
pub mod Spelling
