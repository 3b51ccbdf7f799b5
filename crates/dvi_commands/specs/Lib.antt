pub mod Spelling
pub mod ShortestSpelling
pub mod Refusal
pub mod Writing
pub mod Reading
pub mod SpellingLaws
pub mod Rows
pub mod Skippable
