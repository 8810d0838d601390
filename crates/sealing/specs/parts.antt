pub mod Ends
pub mod Sides
