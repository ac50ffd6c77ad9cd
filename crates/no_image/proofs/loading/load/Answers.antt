use Rattle.std.proofs.Common.{◌∙◌, ℕ, Bool, ap}
use Rattle.no_image.proofs.loading.load.Goals as goal

pub returns-clause-held : goal.returns-clause-held
returns-clause-held c = λ p lt. ap (λ (h : ℕ → Bool). h p) c.fill.ensures.held ∙ c.in_ok-memory.ensures.held p lt
