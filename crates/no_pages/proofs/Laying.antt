-- Pages that are laid over a memory one after the other.
use Rattle.std.proofs.Common.{◌≡◌, ℕ, ◌+◌, ◌-◌, ◌*◌, ◌/◌, ◌%◌, ◌<◌, ◌≤◌, inl, inr, List, length, get_or, Option, Some, None, refl, sym, ap, ◌∙◌, arith}
use mathlib.Core.Path.{fun_ext}
use Rattle.std.proofs.lemmas.Bool.{cases_eq, cases_lt, le-ltb, lt-ltb}
use Rattle.no_layout.specs.Memory.{written}
use Rattle.no_layout.proofs.Overlay.{above, below, inside}
use Rattle.no_pages.specs.Held.{IsLaid, at_place, first, over}

module _ (kept : ℕ → Option (List ℕ)) (f : ℕ → ℕ) (n : ℕ) where
  under : (q : ℕ) → q < n → first n kept q ≡ kept q
  under q lt = rw (lt-ltb q n lt) refl

  past : (q : ℕ) → n ≤ q → first n kept q ≡ None
  past q le = rw (le-ltb q n le) refl

  -- the byte at an address, by what is kept of its page
  by : (a : ℕ) (page : Option (List ℕ)) → first n kept (a / 4096) ≡ page → over (first n kept) f a ≡ at_place page (a % 4096) (f a)
  by a page e = ap (λ (p : Option (List ℕ)). at_place p (a % 4096) (f a)) e

module _ (kept : ℕ → Option (List ℕ)) (f : ℕ → ℕ) where
  pub first_none : over (first 0 kept) f ≡ f
  first_none = fun_ext (λ a. by kept f 0 a None (past kept f 0 (a / 4096) (omega arith)))

  pub first_all : (n : ℕ) → ((q : ℕ) → n ≤ q → kept q ≡ None) → over (first n kept) f ≡ over kept f
  first_all n none = fun_ext (λ a. elim (cases_lt (a / 4096) n) [
    | inl lt ↦ by kept f n a (kept (a / 4096)) (under kept f n (a / 4096) lt)
    | inr le ↦ by kept f n a None (past kept f n (a / 4096) le) ∙ ap (λ (p : Option (List ℕ)). at_place p (a % 4096) (f a)) (sym (none (a / 4096) le))
  ])

  pub first_skips : (n : ℕ) → kept n ≡ None → over (first (n + 1) kept) f ≡ over (first n kept) f
  first_skips n none = fun_ext (λ a. elim (cases_lt (a / 4096) n) [
    | inl lt ↦ by kept f (n + 1) a (kept (a / 4096)) (under kept f (n + 1) (a / 4096) (omega arith)) ∙ sym (by kept f n a (kept (a / 4096)) (under kept f n (a / 4096) lt))
    | inr le ↦ elim (cases_eq (a / 4096) n) [
      | inl is ↦ by kept f (n + 1) a None (under kept f (n + 1) (a / 4096) (omega arith) ∙ ap kept is ∙ none) ∙ sym (by kept f n a None (past kept f n (a / 4096) le))
      | inr ne ↦ by kept f (n + 1) a None (past kept f (n + 1) (a / 4096) (omega arith)) ∙ sym (by kept f n a None (past kept f n (a / 4096) le))
    ]
  ])

  pub first_lays : (n : ℕ) (bs : List ℕ) → kept n ≡ Some bs → length bs ≡ 4096 → written (over (first n kept) f) (4096 * n) bs ≡ over (first (n + 1) kept) f
  first_lays n bs some len = fun_ext (λ a. elim (cases_lt (a / 4096) n) [
    | inl lt ↦
        below (over (first n kept) f) (4096 * n) bs a (omega arith)
        ∙ by kept f n a (kept (a / 4096)) (under kept f n (a / 4096) lt)
        ∙ sym (by kept f (n + 1) a (kept (a / 4096)) (under kept f (n + 1) (a / 4096) (omega arith)))
    | inr le ↦ elim (cases_eq (a / 4096) n) [
      | inl is ↦ (let place : a - 4096 * n ≡ a % 4096 = omega arith in
          inside (over (first n kept) f) (4096 * n) bs a (omega arith) (omega (arith, len))
          ∙ ap (λ (k : ℕ). get_or bs k 0) place
          ∙ sym (by kept f (n + 1) a (Some bs) (under kept f (n + 1) (a / 4096) (omega arith) ∙ ap kept is ∙ some)))
      | inr ne ↦
          above (over (first n kept) f) (4096 * n) bs a (omega (arith, len))
          ∙ by kept f n a None (past kept f n (a / 4096) le)
          ∙ sym (by kept f (n + 1) a None (past kept f (n + 1) (a / 4096) (omega arith)))
    ]
  ])

  -- one slot more
  pub first_next : (n : ℕ) (slot : Option (List ℕ)) (old new : ℕ → ℕ) → kept n ≡ slot → old ≡ over (first n kept) f → IsLaid slot n old new → new ≡ over (first (n + 1) kept) f
  first_next n None old new is so_far laid = laid ∙ so_far ∙ sym (first_skips n is)
  first_next n (Some bs) old new is so_far laid = laid.1 ∙ ap (λ (g : ℕ → ℕ). written g (4096 * n) bs) so_far ∙ first_lays n bs is laid.0
