pub mod Moments
pub mod Profiled
pub mod Tallied
pub mod Lines
