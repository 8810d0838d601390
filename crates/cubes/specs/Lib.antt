pub mod Cubes
pub mod Laws
pub mod Levels
