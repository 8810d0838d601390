pub mod Maps
pub mod Marks
pub mod Sources
pub mod Woven
pub mod parts
