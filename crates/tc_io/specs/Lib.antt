pub mod Edge
pub mod Faults
pub mod FaultPlan
pub mod Gathered
pub mod Hex
pub mod ReadAll
pub mod Sink
pub mod Source
