pub mod Contents
pub mod Memory
pub mod Plans
pub mod Record
pub mod Volumes
