pub mod Clocks
pub mod Exact
pub mod Finders
pub mod Spans
