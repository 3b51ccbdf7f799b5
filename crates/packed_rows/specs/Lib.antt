pub mod Bitmap
pub mod Packing
pub mod Stored
pub mod Changes
pub mod Stamped
pub mod Coordinates
pub mod Joined
