mod CounterLaws
pub mod LocalLaws
