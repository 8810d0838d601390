pub mod Parts
pub mod Columns
pub mod Placement
mod Ended
