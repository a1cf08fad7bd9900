pub mod Faults
pub mod Lines
pub mod Reports
pub mod Settled
