pub mod Sound
pub mod Code
pub mod Ready
pub mod Plan
pub mod Shown
pub mod Asks
pub mod Facts
pub mod Moving
