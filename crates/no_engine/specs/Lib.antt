pub mod Parts
pub mod Slices
pub mod Local
