use Rattle.std.proofs.Common.{◌∙◌, ℕ, Bool, ap}
use Rattle.no_pages.specs.Table.{held_of}
use Rattle.no_cases.proofs.pages.lay.Goals as goal

pub returns : goal.returns
returns c = record { held = λ p below. ap (λ (h : ℕ → Bool). h p) c.fill.ensures.held ∙ c.requires.held p below }
