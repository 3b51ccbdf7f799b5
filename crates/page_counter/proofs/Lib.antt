pub mod Sums
pub mod Once
pub mod SeatStates
pub mod Keeps
pub mod Says
pub mod Claimers
