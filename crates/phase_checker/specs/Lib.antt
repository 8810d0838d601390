pub mod Reasons
pub mod Dealing
pub mod Laws
pub mod parts
