pub mod Machines
pub mod Reported
