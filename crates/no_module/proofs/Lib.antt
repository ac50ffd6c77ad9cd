mod Indices
pub mod Meets
