pub mod ByHand
pub mod Meanwhile
