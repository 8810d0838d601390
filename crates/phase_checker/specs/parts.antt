pub mod Early
pub mod Parts
