pub mod Slots
pub mod Stack
