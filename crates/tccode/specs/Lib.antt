pub mod Answer
pub mod Codes
