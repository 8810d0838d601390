pub mod Ways
pub mod Narrowed
pub mod Laws
