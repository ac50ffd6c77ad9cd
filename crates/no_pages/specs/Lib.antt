pub mod Held
pub mod Keeping
pub mod Kinds
pub mod Made
pub mod Marks
pub mod Pages
pub mod Slot
pub mod Table
