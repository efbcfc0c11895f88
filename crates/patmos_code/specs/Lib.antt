pub mod Codes
pub mod Coded
pub mod Decoding
pub mod Images
pub mod Worked
