pub mod Running
pub mod Cores
pub mod Among
pub mod Alone
pub mod Reported
