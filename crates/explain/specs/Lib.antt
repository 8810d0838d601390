pub mod Often
pub mod Losing
pub mod Messages
