pub mod Ink
pub mod Limits
