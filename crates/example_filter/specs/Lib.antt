pub mod Stacked
pub mod StackedLaws
pub mod ByHand
pub mod Words
