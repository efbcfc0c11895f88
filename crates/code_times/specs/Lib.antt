pub mod Costs
pub mod Times
