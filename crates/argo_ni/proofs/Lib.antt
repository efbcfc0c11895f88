pub mod Acts
pub mod Course
pub mod Kept
pub mod Queue
pub mod Ranges
pub mod Windows
