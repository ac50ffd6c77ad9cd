pub mod Meanings
pub mod Memory
pub mod Tally
pub mod Link
