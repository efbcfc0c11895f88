pub mod Memory
pub mod Moves
pub mod Words
pub mod Return
