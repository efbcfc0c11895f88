pub mod Examples
pub mod Marks
pub mod Persist
pub mod Reached
pub mod Sums
pub mod Together
