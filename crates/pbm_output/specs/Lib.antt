pub mod Pbm
pub mod Examples
pub mod Pieces
