pub mod Fits
pub mod Lexed
pub mod Printed
pub mod ReadBack
pub mod Rest
pub mod Spells
pub mod States
