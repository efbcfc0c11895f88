pub mod ByItself
pub mod AtOnce
pub mod OwnWords
pub mod Stretches
pub mod Sleeping
pub mod Waits
