pub mod Beside
pub mod Drafts
pub mod Statements
pub mod Where
pub mod Items
pub mod Shown
