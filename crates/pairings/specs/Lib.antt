pub mod PairPaths
pub mod Runs
