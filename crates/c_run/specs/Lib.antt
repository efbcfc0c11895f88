pub mod Locations
pub mod Ran
pub mod Sizes
pub mod Reported
