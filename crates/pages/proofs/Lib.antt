pub mod Fronts
pub mod Joined
