pub mod Kept
pub mod Looked
pub mod Pieces
pub mod Runs
pub mod Worker
