pub mod Faults
pub mod Laying
pub mod Limit
pub mod Record
pub mod Steps
pub mod Writing
