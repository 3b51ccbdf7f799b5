pub mod Growth
pub mod Pieces
pub mod Taken
pub mod Shelf
