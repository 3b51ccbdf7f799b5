pub mod Limits
pub mod Position
pub mod Marks
pub mod Bounds
pub mod Stack
pub mod Stops
pub mod Examples
