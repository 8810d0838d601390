pub mod Along
pub mod Queues
pub mod Slots
pub mod Waiting
