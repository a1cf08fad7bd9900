pub mod Printouts
pub mod Walks
pub mod Plans
pub mod Settled
pub mod Outcomes
pub mod Rows
pub mod inner
