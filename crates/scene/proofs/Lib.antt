pub mod LineNumbers
mod Listed
mod Replayed
mod Ends
pub mod Edges
