pub mod Continuing
pub mod Fronts
pub mod Histories
pub mod Printing
pub mod Remembering
pub mod Showing
pub mod Writing
pub mod Outcomes
