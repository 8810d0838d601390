pub mod Digits
pub mod Lines
pub mod Faults
pub mod Pieces
pub mod Mapping
pub mod Reading
pub mod Names
