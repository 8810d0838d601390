pub mod Pins
pub mod Weights
pub mod Words
pub mod parts
