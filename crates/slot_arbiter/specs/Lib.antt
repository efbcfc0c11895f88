pub mod Order
pub mod Place
pub mod Slot
pub mod Stamp
pub mod Table
