pub mod Clauses
pub mod Laws
pub mod Packing
pub mod Storage
