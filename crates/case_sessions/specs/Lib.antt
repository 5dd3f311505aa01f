pub mod Openings
