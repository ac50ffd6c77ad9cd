pub mod Appending
pub mod Braces
pub mod Fields
pub mod Lists
pub mod Whole
