pub mod Cycles
pub mod Entries
pub mod InTurn
pub mod Turns
