pub mod Ordered
pub mod Rising
pub mod Gaps
pub mod Telling
pub mod Restored
pub mod Placing
mod Rows
pub mod Indexed
pub mod Found
pub mod Merging
pub mod Comparing
pub mod Left
