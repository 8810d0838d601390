pub mod LiteralLaws
pub mod Unions
pub mod Resolvents
pub mod Paths
pub mod Added
pub mod Forests
pub mod Splits
pub mod NodeNumbers
