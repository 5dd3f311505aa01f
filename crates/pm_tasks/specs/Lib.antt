pub mod Archives
pub mod Conversions
pub mod Rows
pub mod Takes
pub mod Telling
pub mod commands
