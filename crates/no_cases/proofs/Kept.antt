-- Pages that are kept until a table takes them, and bytes in pages that are present.
use Rattle.std.proofs.Common.{◌≡◌, ℕ, ◌+◌, ◌-◌, ◌/◌, ◌^◌, ◌<◌, ◌≤◌, inl, inr, Bool, true, if◌then◌else◌, List, Option, Some, None, sym, subst, arith}
use Rattle.std.proofs.lemmas.Bool.Decides.{eqb_tells}
use Rattle.std.proofs.lemmas.Nat.{div_below}
use Rattle.no_layout.specs.Memory.{AreOwn}
use Rattle.no_pages.specs.Held.{AreHeld, IsHeld, with_page}

module _ (held : ℕ → Bool) where
  pub none_kept : (kept : ℕ → Option (List ℕ)) → kept ≡ (λ p. None) → AreHeld held kept
  none_kept kept is = subst (λ (k : ℕ → Option (List ℕ)). AreHeld held k) (sym is) (λ p. tt)

  pub more_kept : (old new : ℕ → Option (List ℕ)) (p : ℕ) (bytes : List ℕ) → new ≡ with_page old p bytes → held p ≡ true → AreHeld held old → AreHeld held new
  more_kept old new p bytes is there all = subst (λ (k : ℕ → Option (List ℕ)). AreHeld held k) (sym is) (λ q. elim (eqb_tells q p) [
    | inl same ↦ subst (λ (b : Bool). IsHeld held q (if b then Some bytes else old q)) (sym same.0) (rw same.1 there)
    | inr other ↦ subst (λ (b : Bool). IsHeld held q (if b then Some bytes else old q)) (sym other.0) (all q)
  ])

  -- bytes below the heap's end lie in pages of the table
  pub all_own : (at n : ℕ) → ((p : ℕ) → p < 131328 → held p ≡ true) → at + n < 2 ^ 29 → AreOwn held at n
  all_own at n all short = λ p low high.
      let few : (at + n - 1) / 4096 < 131072 = div_below (at + n - 1) 4096 131072 (omega arith) (omega arith) in
      all p (omega (arith, few, high))
