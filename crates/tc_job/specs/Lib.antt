pub mod SlotTable
pub mod Input
pub mod Keys
pub mod Task
pub mod Job
pub mod Ranges
