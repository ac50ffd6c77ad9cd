use Rattle.std.proofs.Common.{◌∙◌, ℕ, Bool, ap, sym}
use Rattle.no_pages.proofs.table.PageTable.store_otherwise.Goals as goal

pub returns-then-part_store-clause-own : goal.returns-then-part_store-clause-own
returns-then-part_store-clause-own c = λ p h. ap (λ (own : ℕ → Bool). own p) c.part_store.ensures.own ∙ h

pub returns-else-part_store-clause-enough : goal.returns-else-part_store-clause-enough
returns-else-part_store-clause-enough c = λ e.
    let shared = c.store_slowly.ensures.enough e in
    (shared.0, shared.1, shared.2, sym (ap (λ (own : ℕ → Bool). own shared.0) c.part_store.ensures.own) ∙ shared.3)

pub returns-else-part_store-clause-own : goal.returns-else-part_store-clause-own
returns-else-part_store-clause-own c = λ p h. c.store_slowly.ensures.own p (ap (λ (own : ℕ → Bool). own p) c.part_store.ensures.own ∙ h)
