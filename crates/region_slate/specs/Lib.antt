pub mod Slate
pub mod Journals
