pub mod CountingBack
pub mod FirstFit
pub mod Fronts
pub mod Sound
pub mod TextLines
pub mod Walking
