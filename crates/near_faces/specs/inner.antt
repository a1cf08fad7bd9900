pub mod Listing
pub mod Sides
pub mod Swept
