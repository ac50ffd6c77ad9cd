pub mod Sets
pub mod Touches
pub mod Bumps
pub mod Calls
pub mod Begins
pub mod Frames
pub mod Rows
pub mod Listing
