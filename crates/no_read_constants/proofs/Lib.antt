pub mod ConstLaws
pub mod Depths
pub mod PlaceLaws
