pub mod Scanned
pub mod Pieces
pub mod Parts
pub mod Labels
pub mod Pushed
