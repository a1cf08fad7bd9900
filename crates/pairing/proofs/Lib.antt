pub mod Near
pub mod PairBytes
pub mod Runs
pub mod Searching
pub mod InMemory
