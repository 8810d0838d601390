pub mod Searches
pub mod Senders
