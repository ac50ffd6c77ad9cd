pub mod Ends
pub mod Flow
pub mod Folded
pub mod Memory
pub mod Operands
pub mod Simple
