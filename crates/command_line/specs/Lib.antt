pub mod Limits
pub mod Settings
pub mod Line
pub mod Laws
pub mod Shaped
pub mod Commands
pub mod Reads
