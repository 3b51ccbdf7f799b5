pub mod Scaling
pub mod Nearest
