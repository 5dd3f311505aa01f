pub mod Coherent
pub mod Counting
mod Emptied
mod Emptying
pub mod Looked
pub mod Mended
pub mod OneArchive
pub mod OneImage
pub mod OneLine
pub mod OneRun
pub mod Refused
pub mod Retired
pub mod Scripted
pub mod Sound
