pub mod Capped
pub mod Moved
pub mod Reach
pub mod Shown
pub mod Taken
pub mod Kept
