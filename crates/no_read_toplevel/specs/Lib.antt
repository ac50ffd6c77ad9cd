pub mod Entities
pub mod Gathered
pub mod Globals
pub mod Grouping
pub mod Modules
pub mod Tops
pub mod WrittenOut
