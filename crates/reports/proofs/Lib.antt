pub mod Shorter
pub mod Drawn
pub mod Losses
pub mod Tellings
pub mod Programs
pub mod Verdicts
