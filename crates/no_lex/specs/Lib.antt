pub mod Faults
pub mod Found
pub mod Spelling
pub mod Tokens
