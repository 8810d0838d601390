mod LratTexts
mod Texts
