pub mod Begun
pub mod Carried
pub mod Final
pub mod Groups
pub mod Worked
