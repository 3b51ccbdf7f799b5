pub mod MarkedPages
pub mod Clips
