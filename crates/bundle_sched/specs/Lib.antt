pub mod Legal
pub mod Operands
pub mod Ordered
pub mod Packed
pub mod Packing
pub mod Placed
pub mod Scheduled
pub mod Shown
