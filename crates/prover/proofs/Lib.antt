pub mod Answering
pub mod Elements
pub mod Rotated
pub mod Stations
pub mod Walks
