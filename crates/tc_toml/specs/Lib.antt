pub mod Fault
pub mod Keys
pub mod Values
pub mod Tree
