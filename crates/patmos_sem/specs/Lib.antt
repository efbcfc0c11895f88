pub mod Operations
pub mod Registers
pub mod Writes
pub mod Effects
pub mod Bundles
pub mod Narrow
pub mod Worked
