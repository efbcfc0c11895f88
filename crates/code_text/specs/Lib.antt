pub mod Lines
pub mod Listing
pub mod Names
pub mod Runs
pub mod Tally
