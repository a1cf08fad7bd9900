pub mod Pieces
pub mod Done
pub mod Calls
