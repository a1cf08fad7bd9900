pub mod PlanPaths
pub mod Runs
