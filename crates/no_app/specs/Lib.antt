pub mod Programs
pub mod Jobs
pub mod Words
pub mod Requests
pub mod Outcomes
