use Rattle.std.proofs.Common.{◌≡◌, ◌∙◌, ℕ, List, inl, inr, get_or, replicate, ap, arith}
use Rattle.std.proofs.lemmas.Bool.{cases_lt}
use Rattle.std.proofs.lemmas.List.{get_or-replicate, get_or_past, length-replicate}
use Rattle.no_pages.proofs.Making.{fresh_kinds}
use Rattle.no_pages.proofs.table.PageTable.make.Goals as goal

zero_each : (n k z : ℕ) → get_or (replicate n z) k z ≡ z
zero_each n k z = elim (cases_lt k n) [
  | inl lt ↦ get_or-replicate n k z z lt
  | inr le ↦ get_or_past (replicate n z) k z (omega (arith, length-replicate n z))
]

pub invariant_of-result-clause-kinds : goal.invariant_of-result-clause-kinds
invariant_of-result-clause-kinds c = fresh_kinds c.args.regions c.args.present c.loop-page.page c.loop-page.slots.items c.loop-page.invariant

pub invariant_of-result-clause-zero : goal.invariant_of-result-clause-zero
invariant_of-result-clause-zero c = λ k. ap (λ (xs : List ℕ). get_or xs k 0) c.in_ok-zeros.ensures.ok ∙ zero_each 4096 k 0
