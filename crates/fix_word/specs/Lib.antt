pub mod FixWords
pub mod Scale
