pub mod Extending
pub mod Judges
pub mod Outcomes
