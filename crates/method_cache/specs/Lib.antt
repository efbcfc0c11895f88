pub mod Residents
pub mod Ring
