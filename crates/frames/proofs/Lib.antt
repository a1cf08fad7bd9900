pub mod FrameLaws
pub mod Between
pub mod Texts
pub mod Endings
pub mod BothFrames
pub mod Runs
pub mod InMemory
