pub mod Searches
pub mod Walks
