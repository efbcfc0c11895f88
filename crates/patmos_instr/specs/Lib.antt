pub mod Fields
pub mod Numbers
pub mod Functions
pub mod Specials
pub mod Memories
pub mod Guards
pub mod Instructions
pub mod Bundles
