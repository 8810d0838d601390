pub mod Cycles
pub mod Waiting
pub mod Laws
pub mod Misses
pub mod MissLaws
pub mod parts
