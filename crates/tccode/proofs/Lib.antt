pub mod Coding
pub mod Naming
pub mod Outcomes
pub mod Programs
