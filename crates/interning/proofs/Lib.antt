pub mod Places
pub mod TableSteps
pub mod Numbering
