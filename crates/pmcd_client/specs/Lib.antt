pub mod Bytes
pub mod Items
pub mod Pieces
pub mod Replies
pub mod Talks
pub mod Turns
