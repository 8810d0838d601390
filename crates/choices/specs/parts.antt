pub mod Pins
pub mod Steps
pub mod Weights
