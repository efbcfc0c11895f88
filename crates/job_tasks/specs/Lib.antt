pub mod Tasks
pub mod Coding
pub mod Making
pub mod Gives
pub mod Sites
pub mod Answer
pub mod Outcome
