pub mod Own
pub mod Board
pub mod May
pub mod Left
