pub mod Moves
pub mod Traffic
