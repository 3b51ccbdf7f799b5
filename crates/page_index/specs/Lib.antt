pub mod Document
pub mod Faults
pub mod Fonts
pub mod Judged
pub mod Laws
pub mod Limits
pub mod Pages
pub mod Walked
