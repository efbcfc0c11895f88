pub mod Entries
pub mod Open
