pub mod Sums
pub mod Drawing
pub mod Reported
pub mod Chains
pub mod Together
pub mod Finishing
