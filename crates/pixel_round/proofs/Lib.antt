pub mod Conversion
pub mod Equal
pub mod Reciprocal
pub mod OneRound
