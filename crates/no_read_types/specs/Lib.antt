pub mod Graph
pub mod Lifted
pub mod Lifting
pub mod Queue
