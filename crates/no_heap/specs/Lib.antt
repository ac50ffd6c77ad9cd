pub mod Blocks
pub mod Fit
pub mod Changes
pub mod Index
pub mod Search
pub mod Steps
