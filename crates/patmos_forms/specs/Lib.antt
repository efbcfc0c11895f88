pub mod Readers
pub mod Faults
pub mod Operands
pub mod Forms
pub mod Gives
