pub mod Ended
pub mod FoldedLaws
pub mod FormLaws
pub mod Grouped
