pub mod LeastBuffered
pub mod parts
