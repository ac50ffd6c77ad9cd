pub mod BlockLaws
pub mod BodyLaws
pub mod ClosedLists
pub mod FunctionLaws
pub mod HeadLaws
pub mod InstrApart
