pub mod Asking
pub mod Explanations
pub mod Exports
pub mod Sizes
pub mod Trimming
pub mod FormulaTexts
pub mod Telling
pub mod parts
