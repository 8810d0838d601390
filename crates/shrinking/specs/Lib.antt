pub mod Shrinking
pub mod Left
pub mod Laws
pub mod Mapping
pub mod Told
