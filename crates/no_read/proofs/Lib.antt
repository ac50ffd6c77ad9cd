pub mod FormedLaws
pub mod KnowingLaws
pub mod ReadingLaws
