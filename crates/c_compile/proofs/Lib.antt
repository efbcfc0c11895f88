pub mod Carrying
pub mod Checked
pub mod Example
pub mod Read
