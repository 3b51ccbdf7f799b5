pub mod Fonts
pub mod Pages
pub mod Glyphs
pub mod TwoSamples
pub mod Runs
