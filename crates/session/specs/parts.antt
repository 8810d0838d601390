pub mod FileLaws
pub mod Pages
pub mod Phasing
pub mod Runs
pub mod Shrinking
pub mod Texts
