pub mod Moving
pub mod Alone
pub mod AtOnce
