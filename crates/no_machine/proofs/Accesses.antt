-- What the answers of accesses say of the pages of a row.
use Rattle.std.proofs.Common.{◌≡◌, ℕ, zero, suc, ◌+◌, ◌<◌, ◌≤◌, ◌==◌, ◌⊎◌, inl, inr, if◌then◌else◌, Bool, true, false, [], ◌∷◌, Option, Some, None, refl, sym, subst, arith}
use Rattle.std.proofs.lemmas.Bool.{cases_Bool, cases_lt, eqb-true}
use Rattle.no_ir.specs.declared.ending.Trap.{Trap}
use Rattle.no_layout.proofs.Accesses.{done_held, named_absent}
use Rattle.no_layout.specs.Memory.{access, answer, refusal, first_absent, page_of, page_count}
use Rattle.no_layout.specs.declared.memory.Access.TheVariants.{Done, Missing, Refused}
use Rattle.no_layout.specs.declared.memory.Regions.{Regions}
use Rattle.no_semantics.specs.Sound.{is_width}
use Rattle.no_semantics.specs.Spans.{AreHeld, IsLowestAbsent, Touches, span_of}
use Rattle.no_semantics.specs.Values.{bytes_of_width}
use Rattle.no_semantics.proofs.Scalars.{known}

done_is : (refused : Option Trap) (absent : Option ℕ) → answer refused absent ≡ Done → refused ≡ None
done_is (Some t) absent e = absurd cc
done_is None (Some p) e = absurd cc
done_is None None e = refl

refused_is : (refused : Option Trap) (absent : Option ℕ) (t : Trap) → answer refused absent ≡ Refused t → refused ≡ Some t
refused_is (Some u) absent t e = cc
refused_is None (Some p) t e = absurd cc
refused_is None None t e = absurd cc

missing_is : (refused : Option Trap) (absent : Option ℕ) (p : ℕ) → answer refused absent ≡ Missing p → (refused ≡ None) × (absent ≡ Some p)
missing_is (Some u) absent p e = absurd cc
missing_is None (Some q) p e = (refl, cc)
missing_is None None p e = absurd cc

span_some : (at n : ℕ) → 0 < n → span_of at n ≡ record { at = at; len = n } ∷ []
span_some at n some = elim (cases_Bool (n == 0)) [
  | inl is ↦ (let e : n ≡ 0 = eqb-true n 0 is in absurd (omega (arith, e)))
  | inr other ↦ rw other refl
]

next_of : (b : Bool) (later : Option ℕ) (p page : ℕ) → (if b then later else Some p) ≡ Some page → ((b ≡ true) × (later ≡ Some page)) ⊎ (p ≡ page)
next_of true later p page e = inl (refl, e)
next_of false later p page e = inr cc

lower_held : (held : ℕ → Bool) (p n page : ℕ) → first_absent held p n ≡ Some page → (q : ℕ) → p ≤ q → q < page → held q ≡ true
lower_held held p zero page e q low high = absurd cc
lower_held held p (suc n) page e q low high = elim (next_of (held p) (first_absent held (p + 1) n) p page e) [
  | inl later ↦ (elim (cases_lt p q) [
    | inl behind ↦ lower_held held (p + 1) n page later.1 q (omega arith) high
    | inr here ↦ (let same : p ≡ q = omega arith in subst (λ k. held k ≡ true) same later.0)
  ])
  | inr here ↦ absurd (omega arith)
]

pub some_bytes : (w : ℕ) → is_width w ≡ true → 0 < bytes_of_width w
some_bytes w e = elim (known w e) [
  | inl is ↦ rw is (omega arith)
  | inr (inl is) ↦ rw is (omega arith)
  | inr (inr (inl is)) ↦ rw is (omega arith)
  | inr (inr (inr (inl is))) ↦ rw is (omega arith)
  | inr (inr (inr (inr is))) ↦ rw is (omega arith)
]

module _ (r : Regions) (held : ℕ → Bool) (write : Bool) (at n : ℕ) where
  pub not_refused : access r held write at n ≡ Done → refusal r write at n ≡ None
  not_refused e = done_is (refusal r write at n) (first_absent held (page_of at) (page_count at n)) e

  pub absent_not_refused : (page : ℕ) → access r held write at n ≡ Missing page → refusal r write at n ≡ None
  absent_not_refused page e = (missing_is (refusal r write at n) (first_absent held (page_of at) (page_count at n)) page e).0

  pub refused : (t : Trap) → access r held write at n ≡ Refused t → refusal r write at n ≡ Some t
  refused t e = refused_is (refusal r write at n) (first_absent held (page_of at) (page_count at n)) t e

  pub spans_held : 0 < n → access r held write at n ≡ Done → AreHeld held (span_of at n)
  spans_held some e page touches = elim (subst (λ ss. Touches ss page) (span_some at n some) touches) [
    | inl here ↦ done_held r held write at n some e page here.1 here.2
    | inr none ↦ absurd none
  ]

  pub lowest_of : 0 < n → (page : ℕ) → access r held write at n ≡ Missing page → IsLowestAbsent held (span_of at n) page
  lowest_of some page e =
      let parts = missing_is (refusal r write at n) (first_absent held (page_of at) (page_count at n)) page e in
      let named = named_absent held (page_of at) (page_count at n) page parts.1 in
      record {
        touched = subst (λ ss. Touches ss page) (sym (span_some at n some)) (inl (some, named.1, omega (arith, named.2)));
        absent = named.0;
        lowest = λ q touches absent. elim (cases_lt q page) [
          | inl lower ↦ (elim (subst (λ ss. Touches ss q) (span_some at n some) touches) [
            | inl here ↦ (let there = lower_held held (page_of at) (page_count at n) page parts.1 q here.1 lower in absurd cc)
            | inr none ↦ absurd none
          ])
          | inr above ↦ omega arith
        ];
      }
