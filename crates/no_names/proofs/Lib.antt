pub mod Again
pub mod Ascii
