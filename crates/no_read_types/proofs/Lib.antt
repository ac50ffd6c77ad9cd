pub mod CircleLaws
pub mod FlagLaws
pub mod LiftLaws
pub mod LiftedLaws
pub mod OrderLaws
pub mod QueueLaws
pub mod WatcherLaws
