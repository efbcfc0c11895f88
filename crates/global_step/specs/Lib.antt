pub mod Loaded
pub mod Machine
pub mod Pairs
pub mod Range
pub mod PlainEvent
pub mod PlainRun
