pub mod Last
pub mod Left
