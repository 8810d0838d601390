pub mod Numbers
pub mod Lists
pub mod Closing
pub mod Matching
pub mod Leaving
pub mod Sideways
pub mod Differing
