pub mod Passing
pub mod Meaning
pub mod Whole
pub mod AtLimit
pub mod Reaching
pub mod Names
