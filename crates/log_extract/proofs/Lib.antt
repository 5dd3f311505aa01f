pub mod Opening
pub mod Reading
pub mod Reports
pub mod Steps
pub mod Stamps
pub mod Items
pub mod Whole
