pub mod Word
pub mod formers
