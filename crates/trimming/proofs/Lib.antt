pub mod TrimLaws
pub mod MarkLaws
pub mod Counting
pub mod Ranges
