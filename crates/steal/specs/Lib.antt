pub mod Hands
pub mod Seats
pub mod Stolen
pub mod Supplies
pub mod parts
