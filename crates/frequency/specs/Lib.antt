pub mod Frequencies
