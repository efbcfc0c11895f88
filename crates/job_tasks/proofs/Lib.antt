pub mod Outcomes
pub mod Periods
pub mod SitesFound
pub mod TasksFound
pub mod TasksCoded
