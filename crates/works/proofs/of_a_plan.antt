pub mod Alike
pub mod FileByFile
pub mod FileOfPairs
pub mod InMemory
pub mod Offers
pub mod Sorting
pub mod Settling
pub mod TableOfPairs
