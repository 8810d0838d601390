pub mod HandedOut
pub mod Headlines
mod OnRefutations
pub mod OneVerdicts
pub mod Reasons
pub mod Shorter
