pub mod Bits
pub mod RowLaws
pub mod Flowing
pub mod Noting
pub mod Judging
pub mod Solving
pub mod Deciding
pub mod Taking
