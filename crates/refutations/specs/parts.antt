pub mod LineFaults
pub mod TreeFaults
