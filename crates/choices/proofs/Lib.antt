pub mod Buffered
pub mod ChoiceLines
pub mod Known
pub mod Lines
pub mod Replayed
pub mod WordByWord
pub mod Ways
