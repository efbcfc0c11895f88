pub mod Capped
pub mod Open
pub mod Pointed
pub mod Reported
