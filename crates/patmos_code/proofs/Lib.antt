pub mod Numbers
pub mod Instructions
pub mod Bundles
pub mod Walks
