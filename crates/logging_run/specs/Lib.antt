pub mod Named
pub mod Handing
pub mod Recovering
pub mod Closing
pub mod Running
pub mod Refusals
pub mod Laws
