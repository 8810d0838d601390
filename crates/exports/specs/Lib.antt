pub mod Dimacs
pub mod Lrat
