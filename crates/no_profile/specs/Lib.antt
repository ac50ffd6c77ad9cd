pub mod Choices
pub mod Gains
pub mod Numbered
pub mod Ranges
pub mod Reading
pub mod Texts
pub mod Told
