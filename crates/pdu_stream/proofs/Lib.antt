pub mod Calls
pub mod OneWay
pub mod Pieces
