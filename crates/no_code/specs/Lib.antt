pub mod Source
pub mod Slots
pub mod Longer
pub mod Coded
pub mod Making
pub mod Whole
