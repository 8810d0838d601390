pub mod Joining
pub mod parts
