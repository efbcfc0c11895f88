pub mod Tasks
pub mod Worked
