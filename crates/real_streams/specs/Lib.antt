pub mod Logged
pub mod Files
pub mod Used
