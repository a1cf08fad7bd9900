pub mod Events
pub mod Memory
pub mod Outcomes
pub mod Pages
pub mod Traces
pub mod Works
pub mod Writing
pub mod inner
