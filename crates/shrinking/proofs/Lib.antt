pub mod Entries
pub mod LongTexts
pub mod Words
pub mod Kept
