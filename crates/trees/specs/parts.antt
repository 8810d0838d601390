pub mod Preorders
