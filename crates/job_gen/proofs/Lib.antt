pub mod Appends
pub mod Reduced
