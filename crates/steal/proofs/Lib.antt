pub mod Deques
pub mod Joins
pub mod Moves
pub mod Places
pub mod Rows
pub mod Settling
pub mod Supplies
pub mod Thefts
