pub mod Answers
pub mod Expected
pub mod Readers
pub mod Sorts
pub mod Tree
