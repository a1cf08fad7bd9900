pub mod Lines
pub mod Accounts
pub mod Settled
pub mod Works
