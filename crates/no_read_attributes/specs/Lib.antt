pub mod Attributes
pub mod Brackets
pub mod Ending
pub mod Own
pub mod Symbols
pub mod Words
