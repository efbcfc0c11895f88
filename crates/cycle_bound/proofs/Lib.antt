pub mod Bodies
pub mod Earlier
pub mod Gaps
pub mod Holding
pub mod Learning
pub mod Sums
