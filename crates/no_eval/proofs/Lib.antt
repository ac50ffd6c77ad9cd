pub mod Widths
pub mod Quotients
pub mod Within
