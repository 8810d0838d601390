pub mod Turns
pub mod Ranks
pub mod Apart
pub mod Spelling
pub mod Staying
pub mod Meanings
