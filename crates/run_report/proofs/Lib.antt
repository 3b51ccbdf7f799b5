pub mod Joined
pub mod Counted
pub mod Commas
pub mod Words
pub mod ReadBack
