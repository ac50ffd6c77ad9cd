pub mod Ways
pub mod Starting
