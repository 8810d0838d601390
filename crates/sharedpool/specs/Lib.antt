pub mod Laws
pub mod Leaves
pub mod Seats
pub mod Views
pub mod parts
