pub mod Splits
pub mod Grown
pub mod Written
