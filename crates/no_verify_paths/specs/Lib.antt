pub mod Paths
pub mod Words
pub mod Flow
pub mod Survey
pub mod Judge
