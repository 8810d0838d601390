pub mod Leaves
pub mod Nothing
pub mod Seats
pub mod Views
