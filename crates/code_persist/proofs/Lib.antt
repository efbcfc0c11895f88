pub mod Bare
pub mod Going
pub mod Once
pub mod Sooner
