pub mod Arguments
pub mod Beginnings
pub mod Branches
pub mod Declarations
pub mod Earlier
pub mod Falls
pub mod Runs
