pub mod Decisions
pub mod Laws
pub mod Stages
