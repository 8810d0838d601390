pub mod Needed
pub mod parts
