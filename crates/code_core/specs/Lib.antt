pub mod Held
pub mod Sound
pub mod Goes
pub mod Fixed
pub mod Followed
pub mod Asked
pub mod Words
