pub mod Counts
pub mod Streams
pub mod Gather
pub mod Library
pub mod Limits
pub mod FontKeys
