-- A table after one of its pages was replaced.
use Rattle.std.proofs.Common.{◌≡◌, ◌≢◌, ℕ, ◌+◌, ◌-◌, ◌*◌, ◌/◌, ◌<◌, ◌≤◌, inl, inr, Bool, true, false, List, length, get_or, refl, sym, ap, ◌∙◌, arith, ◌||◌, ◌&&◌, nat_le}
use mathlib.Core.Path.{fun_ext}
use Rattle.std.proofs.Math.ListN.{set}
use Rattle.std.proofs.lemmas.Bool.{cases_eq, cases_lt, le-leb, lt-leb}
use Rattle.std.proofs.lemmas.List.{get_or-set_same, get_or-set_other}
use Rattle.no_layout.specs.Memory.{splice, written}
use Rattle.no_layout.specs.Numbers.{marked}
use Rattle.no_pages.specs.Pages.{dirties, helds, lists, owns, paged}
use Rattle.no_pages.specs.Slot.{is_held, is_own, list_of, nothing, own_of}
use Rattle.no_pages.specs.declared.slot.Bytes.{Bytes}
use Rattle.no_pages.specs.declared.slot.Bytes.TheVariants.{Absent, Zeros, Own}
use Rattle.no_pages.specs.declared.slot.Slot.{Slot}
use Rattle.no_pages.proofs.Paged.{write_page}

pub own_list : (z : List ℕ) (b : Bytes) → is_own b ≡ true → list_of z b ≡ own_of b
own_list z Absent e = absurd cc
own_list z Zeros e = absurd cc
own_list z (Own b) e = refl

pub own_held : (b : Bytes) → is_own b ≡ true → is_held b ≡ true
own_held Absent e = absurd cc
own_held Zeros e = absurd cc
own_held (Own b) e = refl

or_in : (d x y : Bool) → x ≡ true → y ≡ true → (d || (x && y)) ≡ true
or_in true x y e f = refl
or_in false true true e f = refl
or_in false true false e f = absurd cc
or_in false false y e f = absurd cc

or_below : (d x y : Bool) → x ≡ false → (d || (x && y)) ≡ d
or_below true x y e = refl
or_below false true y e = absurd cc
or_below false false y e = refl

or_above : (d x y : Bool) → y ≡ false → (d || (x && y)) ≡ d
or_above true x y e = refl
or_above false true true e = absurd cc
or_above false true false e = refl
or_above false false y e = refl

module _ (xs : List Slot) (i : ℕ) (s : Slot) (lt : i < length xs) where
  -- what the new page tells like the old one, each page tells as before
  pub same_of : {A : Type 0} (f : Slot → A) → f s ≡ f (get_or xs i nothing) → (q : ℕ) → f (get_or (set xs i s) q nothing) ≡ f (get_or xs q nothing)
  same_of f e q = elim (cases_eq q i) [
    | inl is ↦ rw (is, get_or-set_same xs i s nothing lt) e
    | inr ne ↦ ap f (get_or-set_other xs i q s nothing ne)
  ]

  pub here_of : {A : Type 0} (f : Slot → A) → f (get_or (set xs i s) i nothing) ≡ f s
  here_of f = ap f (get_or-set_same xs i s nothing lt)

  pub others_of : {A : Type 0} (f : Slot → A) (q : ℕ) → q ≢ i → f (get_or (set xs i s) q nothing) ≡ f (get_or xs q nothing)
  others_of f q ne = ap f (get_or-set_other xs i q s nothing ne)

  pub set_held : is_held s.bytes ≡ is_held (get_or xs i nothing).bytes → helds (set xs i s) ≡ helds xs
  set_held e = fun_ext (same_of (λ (t : Slot). is_held t.bytes) e)

  pub set_own : is_own s.bytes ≡ is_own (get_or xs i nothing).bytes → owns (set xs i s) ≡ owns xs
  set_own e = fun_ext (same_of (λ (t : Slot). is_own t.bytes) e)

  module _ (z : List ℕ) (o at : ℕ) (bs : List ℕ) (is : at ≡ 4096 * i + o) (fits : o + length bs ≤ 4096) where
    pub set_bytes : list_of z s.bytes ≡ splice (list_of z (get_or xs i nothing).bytes) o bs → length (list_of z (get_or xs i nothing).bytes) ≡ 4096 → paged (lists z (set xs i s)) ≡ written (paged (lists z xs)) at bs
    set_bytes e len = write_page (lists z xs) (lists z (set xs i s)) i o at bs is (here_of (λ (t : Slot). list_of z t.bytes) ∙ e) (λ q ne. others_of (λ (t : Slot). list_of z t.bytes) q ne) fits len

  module _ (at n : ℕ) (first : at / 4096 ≡ i) (last : (at + n - 1) / 4096 ≡ i) (e : s.dirty ≡ true) where
    mark : (q : ℕ) → (get_or (set xs i s) q nothing).dirty ≡ marked (dirties xs) at n q
    mark q = elim (cases_eq q i) [
      | inl is ↦
          let here : (get_or (set xs i s) q nothing).dirty ≡ true = rw is (here_of (λ (t : Slot). t.dirty) ∙ e) in
          here ∙ sym (or_in (dirties xs q) (nat_le (at / 4096) q) (nat_le q ((at + n - 1) / 4096)) (le-leb (at / 4096) q (omega arith)) (le-leb q ((at + n - 1) / 4096) (omega arith)))
      | inr ne ↦
          let there = others_of (λ (t : Slot). t.dirty) q ne in
          elim (cases_lt q i) [
            | inl under ↦ there ∙ sym (or_below (dirties xs q) (nat_le (at / 4096) q) (nat_le q ((at + n - 1) / 4096)) (lt-leb (at / 4096) q (omega arith)))
            | inr from ↦ there ∙ sym (or_above (dirties xs q) (nat_le (at / 4096) q) (nat_le q ((at + n - 1) / 4096)) (lt-leb q ((at + n - 1) / 4096) (omega arith)))
          ]
    ]

    pub set_dirty : dirties (set xs i s) ≡ marked (dirties xs) at n
    set_dirty = fun_ext mark
