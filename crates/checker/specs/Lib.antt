pub mod Parts
pub mod Headline
pub mod Verdicts
