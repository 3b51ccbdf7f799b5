pub mod Fits
pub mod Tfm
pub mod Layout
pub mod Stops
pub mod Worked
pub mod Right
