pub mod Each
pub mod Items
pub mod Rising
pub mod Trees
