pub mod Arguments
pub mod Answers
pub mod Judged
pub mod Text
pub mod Picked
