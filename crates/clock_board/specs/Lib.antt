pub mod Board
pub mod End
pub mod Plays
pub mod Record
pub mod Rule
pub mod InWords
pub mod Two
pub mod View
