pub mod Numbers
pub mod Meanings
pub mod Runnable
pub mod Jobs
pub mod Feeding
pub mod LastLines
pub mod Outcomes
