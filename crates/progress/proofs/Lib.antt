pub mod Tellings
pub mod Parts
