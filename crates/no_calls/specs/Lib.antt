pub mod Rows
pub mod Calling
pub mod Reaching
pub mod Spreading
pub mod Nearest
pub mod Links
pub mod Shapes
