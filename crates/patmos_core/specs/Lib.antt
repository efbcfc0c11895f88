pub mod Events
pub mod Progress
pub mod Waiting
pub mod Position
