pub mod Numerals
pub mod Decimals
pub mod Cuts
pub mod Ascii
pub mod Texts
pub mod FirstFaults
pub mod Spaced
