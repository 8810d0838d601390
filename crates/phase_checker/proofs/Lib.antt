pub mod Dealing
pub mod Sent
pub mod Tables
pub mod Reaches
pub mod FirstEarly
pub mod Wholes
pub mod Texts
pub mod Faults
