pub mod Boxes
pub mod Near
pub mod Trees
pub mod Searches
pub mod Covering
pub mod inner
