pub mod Blocks
pub mod Widths
pub mod Indices
pub mod Sound
pub mod Image
