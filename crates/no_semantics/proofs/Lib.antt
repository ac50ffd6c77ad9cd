pub mod Facts
pub mod Parts
pub mod Scalars
pub mod Running
pub mod Passing
