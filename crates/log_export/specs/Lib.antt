pub mod Exported
pub mod Standing
pub mod Reading
pub mod Copying
pub mod Planning
pub mod Laying
pub mod Exporting
pub mod Laws
