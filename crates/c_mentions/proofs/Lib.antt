pub mod Fields
pub mod Flagged
pub mod Leaves
pub mod Outside
pub mod Uses
pub mod Walks
