pub mod Outcomes
pub mod ReportFound
pub mod Lines
pub mod Piped
pub mod Outs
pub mod Telling
pub mod Complete
pub mod Generated
