pub mod Lists
pub mod Numbers
pub mod Repeated
pub mod Rules
pub mod Scope
pub mod Spelled
pub mod Types
pub mod Unescaped
