pub mod Sealing
pub mod Laws
pub mod parts
