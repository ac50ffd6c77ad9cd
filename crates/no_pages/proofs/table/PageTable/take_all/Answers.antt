use Rattle.std.proofs.Common.{◌∙◌, ℕ, Bool, ap, arith}
use Rattle.no_pages.proofs.table.PageTable.take_all.Goals as goal

pub take_own-requires : goal.take_own-requires
take_own-requires c = ap (λ (h : ℕ → Bool). h c.loop-page.page) c.loop-page.invariant.held ∙ c.requires.held c.loop-page.page (omega arith) (omega arith)
