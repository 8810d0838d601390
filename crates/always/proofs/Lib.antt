pub mod Behind
pub mod Buffering
pub mod Greatest
pub mod Ordered
pub mod Blocks
pub mod Ending
