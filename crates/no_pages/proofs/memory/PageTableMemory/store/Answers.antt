use Rattle.std.proofs.Common.{◌∙◌, ℕ, Bool, ap, sym}
use Rattle.no_pages.proofs.memory.PageTableMemory.store.Goals as goal

pub returns-then-try_store-clause-own : goal.returns-then-try_store-clause-own
returns-then-try_store-clause-own c = λ p h. ap (λ (own : ℕ → Bool). own p) c.try_store.ensures.own ∙ h

pub returns-else-try_store-clause-enough : goal.returns-else-try_store-clause-enough
returns-else-try_store-clause-enough c = λ e.
    let shared = c.store_otherwise.ensures.enough e in
    (shared.0, shared.1, shared.2, sym (ap (λ (own : ℕ → Bool). own shared.0) c.try_store.ensures.own) ∙ shared.3)

pub returns-else-try_store-clause-own : goal.returns-else-try_store-clause-own
returns-else-try_store-clause-own c = λ p h. c.store_otherwise.ensures.own p (ap (λ (own : ℕ → Bool). own p) c.try_store.ensures.own ∙ h)
