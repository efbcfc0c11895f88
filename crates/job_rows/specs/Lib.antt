pub mod Machine
pub mod Loading
pub mod Rows
pub mod Worked
