pub mod Later
pub mod Worst
