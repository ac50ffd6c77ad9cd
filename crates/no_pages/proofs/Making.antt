-- A table as it is made.
use Rattle.std.proofs.Common.{◌≡◌, ℕ, suc, ◌+◌, ◌/◌, ◌%◌, ◌<◌, ◌≤◌, inl, inr, Bool, true, false, List, [], ◌∷◌, ◌++◌, length, get_or, refl, sym, ap, ◌∙◌, arith, if◌then◌else◌}
use mathlib.Core.Path.{fun_ext}
use Rattle.std.proofs.lemmas.Bool.{cases_eq, cases_lt}
use Rattle.std.proofs.lemmas.List.{get_or_append_left, get_or_past, get_or_push, length-append}
use Rattle.no_layout.specs.Memory.{AreZero}
use Rattle.no_layout.specs.declared.memory.Regions.{Regions}
use Rattle.no_pages.specs.Kinds.{AreKinds, IsKind}
use Rattle.no_pages.specs.Made.{AreFresh, IsFresh, listed}
use Rattle.no_pages.specs.Pages.{dirties, helds, lists, paged}
use Rattle.no_pages.specs.Slot.{is_held, list_of, nothing}
use Rattle.no_pages.specs.declared.slot.Bytes.TheVariants.{Absent, Zeros}
use Rattle.no_pages.specs.declared.slot.Slot.{Slot}

module _ (r : Regions) (present : Bool) where
  pub fresh_push : (n : ℕ) (xs : List Slot) (s : Slot) → AreFresh r present n xs → IsFresh r present n s → AreFresh r present (n + 1) (xs ++ s ∷ [])
  fresh_push n xs s fresh one = record {
    count = omega (arith, length-append xs (s ∷ []), fresh.count);
    each = λ p lt. elim (cases_eq p n) [
      | inl is ↦ let here : get_or (xs ++ s ∷ []) p nothing ≡ s = get_or_push xs s nothing p (fresh.count ∙ sym is) in rw (here, is) one
      | inr ne ↦
          let before : p < length xs = omega (arith, fresh.count) in
          let there : get_or (xs ++ s ∷ []) p nothing ≡ get_or xs p nothing = get_or_append_left xs (s ∷ []) nothing p before in
          rw there (fresh.each p (omega arith))
    ];
  }

  -- a page that the table does not have tells nothing
  no_kind : (p : ℕ) → IsKind r p nothing.kind
  no_kind p = record { constant = λ e. absurd cc; writable = λ e. absurd cc }

  module _ (n : ℕ) (xs : List Slot) (fresh : AreFresh r present n xs) where
    past : (p : ℕ) → n ≤ p → get_or xs p nothing ≡ nothing
    past p le = get_or_past xs p nothing (omega (arith, fresh.count))

    pub fresh_kinds : AreKinds r xs
    fresh_kinds = record {
      each = λ p. elim (cases_lt p n) [
        | inl lt ↦ (fresh.each p lt).kind
        | inr le ↦ rw (past p le) (no_kind p)
      ];
    }

    pub fresh_dirty : dirties xs ≡ λ p. false
    fresh_dirty = fun_ext (λ p. elim (cases_lt p n) [
      | inl lt ↦ (fresh.each p lt).dirty
      | inr le ↦ ap (λ (t : Slot). t.dirty) (past p le)
    ])

    pub fresh_zero : (z : List ℕ) → AreZero z → paged (lists z xs) ≡ λ a. 0
    unfolding paged
    fresh_zero z zeros = fun_ext (λ a. elim (cases_lt (a / 4096) n) [
      | inl lt ↦ rw (fresh.each (a / 4096) lt).bytes (of_either present (a % 4096))
      | inr le ↦ rw (past (a / 4096) le) refl
    ])
      where
        of_either : (b : Bool) (k : ℕ) → get_or (list_of z (if b then Zeros else Absent)) k 0 ≡ 0
        of_either true k = zeros k
        of_either false k = refl

pub fresh_present : (r : Regions) (n : ℕ) (xs : List Slot) → AreFresh r true n xs → (p : ℕ) → p < n → helds xs p ≡ true
fresh_present r n xs fresh p lt = ap is_held (fresh.each p lt).bytes

pub fresh_absent : (r : Regions) (n : ℕ) (xs : List Slot) → AreFresh r false n xs → helds xs ≡ λ p. false
fresh_absent r n xs fresh = fun_ext (λ p. elim (cases_lt p n) [
  | inl lt ↦ ap is_held (fresh.each p lt).bytes
  | inr le ↦ ap (λ (t : Slot). is_held t.bytes) (get_or_past xs p nothing (omega (arith, fresh.count)))
])

-- ---- the list of pages

pub listed_told : (told : ℕ → Bool) (n : ℕ) → told n ≡ true → listed told (n + 1) ≡ listed told n ++ n ∷ []
unfolding listed
listed_told told n e = let next : n + 1 ≡ suc n = omega arith in rw (next, e) refl

pub listed_not : (told : ℕ → Bool) (n : ℕ) → told n ≡ false → listed told (n + 1) ≡ listed told n
unfolding listed
listed_not told n e = let next : n + 1 ≡ suc n = omega arith in rw (next, e) refl

pub listed_none : (told : ℕ → Bool) → listed told 0 ≡ []
unfolding listed
listed_none told = refl
