pub mod Knowledge
pub mod parts
