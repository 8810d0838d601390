pub mod Balance
pub mod Sides
pub mod Laws
pub mod parts
