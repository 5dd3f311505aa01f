pub mod Causes
pub mod Clocks
pub mod Devices
pub mod Doors
pub mod Sides
pub mod Streams
