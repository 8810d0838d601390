pub mod Lining
pub mod Chart
pub mod Columns
pub mod Picture
pub mod parts
