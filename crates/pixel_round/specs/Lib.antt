pub mod Pixels
pub mod Examples
pub mod Limits
pub mod Preamble
