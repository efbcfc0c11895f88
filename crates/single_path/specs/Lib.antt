pub mod PartWords
pub mod Counted
pub mod Made
pub mod Widths
pub mod Single
pub mod Masked
pub mod Used
pub mod Meant
