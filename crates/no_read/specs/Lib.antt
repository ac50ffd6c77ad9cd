pub mod Faults
pub mod Knowing
pub mod Reading
