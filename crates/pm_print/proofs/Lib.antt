mod Bytes
pub mod Days
pub mod Digits
pub mod Held
pub mod Plain
pub mod Positions
pub mod Searching
pub mod Tables
pub mod Unnamed
pub mod Words
pub mod Zeros
