pub mod Kinds
pub mod Messages
pub mod Spelled
pub mod Streams
pub mod Fronts
pub mod Reading
pub mod Fed
