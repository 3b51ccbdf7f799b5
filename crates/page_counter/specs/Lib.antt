pub mod Claimers
pub mod Codes
pub mod CounterRule
pub mod Laws
pub mod Numbers
pub mod Seats
pub mod Steps
pub mod Views
