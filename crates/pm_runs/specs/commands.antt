pub mod make
pub mod once
pub mod recover
pub mod replay
pub mod retire
