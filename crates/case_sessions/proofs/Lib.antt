pub mod Fresh
pub mod Last
