pub mod Counts
pub mod Leaves
pub mod Trees
pub mod Weights
