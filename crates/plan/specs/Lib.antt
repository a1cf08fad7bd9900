pub mod PairBytes
pub mod Notices
pub mod Plans
pub mod Memory
pub mod Reading
pub mod inner
