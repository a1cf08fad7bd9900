pub mod Comparing
pub mod Frames
pub mod Lines
pub mod Memory
pub mod Outcomes
pub mod Reading
pub mod Works
pub mod inner
