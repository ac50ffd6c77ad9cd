pub mod Cutting
pub mod Depths
pub mod Escapes
pub mod Laws
pub mod ListLaws
pub mod Repeats
pub mod TypeLaws
