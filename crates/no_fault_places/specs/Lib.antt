pub mod Alike
pub mod Places
pub mod Prefixes
