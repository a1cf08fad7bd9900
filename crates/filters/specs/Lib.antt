pub mod Reaching
pub mod Parts
pub mod FirstParts
pub mod inner
