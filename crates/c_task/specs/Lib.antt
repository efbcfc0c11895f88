pub mod Doing
pub mod Programs
pub mod Telling
pub mod Translation
