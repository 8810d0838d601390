pub mod Less
pub mod Entries
