pub mod Placed
pub mod Initial
pub mod Emitted
pub mod Lengths
pub mod Apart
