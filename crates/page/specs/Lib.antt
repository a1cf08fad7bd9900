pub mod Codes
pub mod Shown
pub mod inner
