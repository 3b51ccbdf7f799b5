pub mod Puts
pub mod Keys
pub mod Trace
pub mod Summary
pub mod Tallies
pub mod Laws
pub mod Examples
