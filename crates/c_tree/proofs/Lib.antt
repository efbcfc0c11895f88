pub mod Blocks
pub mod Chains
pub mod LastNamed
pub mod Leasts
pub mod Plains
pub mod Sizes
pub mod StmtSizes
pub mod Typing
