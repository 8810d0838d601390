pub mod Entries
pub mod LiteralSets
