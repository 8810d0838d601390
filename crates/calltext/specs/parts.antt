pub mod Body
pub mod Capped
pub mod Item
pub mod Verbs
