pub mod Along
pub mod Functions
pub mod Joins
pub mod Lists
pub mod Plain
pub mod Whole
