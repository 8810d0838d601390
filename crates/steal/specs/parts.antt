pub mod Hands
pub mod Rows
