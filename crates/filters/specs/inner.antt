pub mod Bounds
pub mod Boxes
pub mod Differences
pub mod Halves
pub mod Lanes
pub mod Slabs
pub mod Spans
