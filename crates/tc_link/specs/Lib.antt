pub mod Backs
pub mod Examples
pub mod Fits
pub mod Flat
pub mod Placed
pub mod Stands
pub mod Walk
pub mod Dues
