pub mod Entries
pub mod WholeLines
pub mod Told
