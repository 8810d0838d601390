pub mod Chains
pub mod Cases
pub mod Lines
