pub mod Cuts
pub mod Least
pub mod Right
pub mod Rows
pub mod Table
pub mod Words
