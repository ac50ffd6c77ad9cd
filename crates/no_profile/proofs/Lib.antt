pub mod Numbering
pub mod Flags
pub mod TextLists
pub mod TextsAgain
pub mod Judging
pub mod FirstWrong
