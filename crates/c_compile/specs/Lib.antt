pub mod Answered
pub mod Code
pub mod Examples
pub mod Texts
