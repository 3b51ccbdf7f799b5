pub mod Determined
pub mod Joined
