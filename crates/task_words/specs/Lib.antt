pub mod Reach
pub mod Meant
