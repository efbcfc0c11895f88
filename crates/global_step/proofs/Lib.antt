pub mod MachineRanges
pub mod PlainEvery
pub mod PlainPerform
pub mod PlainLeast
pub mod PlainCourse
