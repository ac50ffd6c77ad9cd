pub mod Kinds
pub mod Verdict
