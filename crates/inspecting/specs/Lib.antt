pub mod FramePaths
pub mod Runs
