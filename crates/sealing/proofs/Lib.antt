pub mod Counterparts
pub mod Finishing
pub mod Sealed
pub mod Seals
mod Acts
mod More
mod Numbered
mod Pairs
mod Untold
