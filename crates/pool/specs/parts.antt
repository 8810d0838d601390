pub mod Batches
pub mod Ledgers
