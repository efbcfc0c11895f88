pub mod Steps
pub mod Rounds
pub mod Still
pub mod Starting
pub mod Missed
pub mod Worst
pub mod Clocks
