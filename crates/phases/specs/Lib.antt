pub mod CallPlaces
pub mod Cuts
pub mod Joining
pub mod Conditions
pub mod Order
pub mod Rests
pub mod Laws
pub mod parts
