pub mod Deciding
pub mod Freed
