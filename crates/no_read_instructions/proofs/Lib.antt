pub mod CallLaws
pub mod InstrLaws
