pub mod Pairings
pub mod Works
pub mod inner
