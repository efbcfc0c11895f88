pub mod Answered
pub mod Bound
pub mod Calls
pub mod Examples
pub mod Gap
pub mod Held
pub mod Known
pub mod Nodes
