pub mod Going
pub mod Refusing
