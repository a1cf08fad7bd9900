pub mod Deeds
pub mod Failures
pub mod Lasts
pub mod Machines
pub mod OnDisk
