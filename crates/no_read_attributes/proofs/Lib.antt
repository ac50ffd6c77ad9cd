pub mod AttributeLaws
pub mod BracketLaws
pub mod EndLaws
pub mod Fronts
pub mod ManyLaws
pub mod OwnLaws
pub mod Saying
