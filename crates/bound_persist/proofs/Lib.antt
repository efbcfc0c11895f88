pub mod Marking
pub mod Summing
pub mod Tighter
pub mod Together
