pub mod EntityLaws
pub mod GlobalLaws
pub mod ManyTops
pub mod ModuleLaws
pub mod TopForms
pub mod TopsLaws
pub mod WrittenLaws
