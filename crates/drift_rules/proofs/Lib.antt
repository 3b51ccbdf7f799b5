pub mod Near
pub mod Stack
pub mod Held
pub mod Rectangles
