pub mod Plain
pub mod Fronts
