pub mod Places
pub mod Ranges
pub mod RunWords
pub mod Sending
pub mod Behaving
pub mod Instance
