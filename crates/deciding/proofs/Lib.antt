pub mod Written
pub mod Staged
pub mod Decided
pub mod LawsOfDecisions
pub mod Racing
