pub mod LastCalls
pub mod NotedLooks
pub mod Turns
