pub mod Left
pub mod Moments
pub mod Planned
pub mod VolumeCounts
