pub mod Bounded
pub mod Ending
pub mod Exact
pub mod Safe
