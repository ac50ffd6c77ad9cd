-- The sizes of named types, and the first that is too large.
use Rattle.std.proofs.Common.{◌≡◌, ◌<◌, ℕ, zero, suc, ◌+◌, Bool, true, false, not, is_some, List, [], ◌∷◌, length, take, slice_get, Option, Some, None, refl, sym, ap, subst, ◌∙◌, inl, inr, arith, true≢false, if◌then◌else◌}
use Rattle.std.proofs.lemmas.Option.{slice_get_cases}
use Rattle.no_ir.specs.declared.types.Ty.{Ty}
use Rattle.no_ir.specs.declared.function.Module.{Module}
use Rattle.no_layout.specs.Sizes.{AreSizes, IsTooLarge, entry_fits, fits_at, sizes_of}
use Rattle.no_layout.specs.declared.extent.Extent.{Extent}
use Rattle.no_layout.specs.declared.layout.Layout.{Layout}
use Rattle.no_verify_types.specs.declared.place.FaultPlace.{FaultPlace}
use Rattle.no_verify_types.specs.Places.{fault_at}
use Rattle.no_room.specs.Fits.{type_fits}
use Rattle.no_verify_structure.specs.Finding.{first_break, unless_whole}
use Rattle.no_verify_structure.specs.Large.{named_fit, large_of, large_with}

module _ {A : Type 0} (keeps : ℕ → A → Bool) where
  breaks_none : (k : ℕ) (xs : List A) → ((i n : ℕ) (x : A) → slice_get xs i ≡ Some x → n ≡ k + i → keeps n x ≡ true) → first_break keeps k xs ≡ None
  breaks_none k [] h = refl
  breaks_none k (x ∷ xs) h = rw (h 0 k x refl (omega arith)) (breaks_none (k + 1) xs (λ i n y is e. h (suc i) n y is (omega (arith, e))))

  breaks_some : (k : ℕ) (xs : List A) (i n : ℕ) (x : A) → slice_get xs i ≡ Some x → n ≡ k + i → keeps n x ≡ false → is_some (first_break keeps k xs) ≡ true
  breaks_some k [] i n x is e fails = absurd cc
  breaks_some k (y ∷ ys) zero n x is e fails =
      let same : y ≡ x = cc in
      let at : n ≡ k = omega (arith, e) in
      let breaks : keeps k y ≡ false = subst (λ (j : ℕ). keeps j y ≡ false) at (subst (λ (z : A). keeps n z ≡ false) (sym same) fails) in
      rw breaks refl
  breaks_some k (y ∷ ys) (suc i) n x is e fails = by (keeps k y) (breaks_some (k + 1) ys i n x is (omega (arith, e)) fails)
    where
      by : (b : Bool) → is_some (first_break keeps (k + 1) ys) ≡ true → is_some (if b then first_break keeps (k + 1) ys else Some k) ≡ true
      by true more = more
      by false more = refl

pub large_named : (l : Layout) (m : Module) (k : ℕ) → IsTooLarge l m.types k → large_of l m ≡ Some (fault_at 0 0 0)
large_named l m k h = elim ((slice_get_cases m.types k).1) [
  | inl (named, lt, is, same) ↦
      (let large : type_fits l (sizes_of l (take k m.types)) named.1 ≡ false = ap (entry_fits l (sizes_of l (take k m.types))) (sym is) ∙ h.large in
      let found = breaks_some (λ j (t : List ℕ × Ty). type_fits l (sizes_of l (take j m.types)) t.1) 0 m.types k k named is (omega arith) large in
      let not_all : named_fit l m.types ≡ false = ap not found in
      ap (λ (b : Bool). unless_whole b (large_with l (sizes_of l m.types) m)) not_all)
  | inr (past, none) ↦ absurd (omega (arith, past, h.within))
]

pub large_used : (l : Layout) (m : Module) (sizes : List Extent) (p : Option FaultPlace) → AreSizes l m.types sizes → p ≡ large_with l sizes m → large_of l m ≡ p
large_used l m sizes p h e =
    ap (λ (b : Bool). unless_whole b (large_with l (sizes_of l m.types) m)) (ap (λ o. not (is_some o)) none)
    ∙ ap (λ (all : List Extent). large_with l all m) (sym h.numbers)
    ∙ sym e
  where
    fits : (i n : ℕ) (named : List ℕ × Ty) → slice_get m.types i ≡ Some named → n ≡ 0 + i → type_fits l (sizes_of l (take n m.types)) named.1 ≡ true
    fits i n named is at =
        let same : n ≡ i = omega (arith, at) in
        let within : i < length m.types = elim ((slice_get_cases m.types i).1) [ inl (x, lt, read, here) ↦ lt | inr (past, nothing) ↦ absurd cc ] in
        subst (λ (j : ℕ). type_fits l (sizes_of l (take j m.types)) named.1 ≡ true) (sym same) (ap (entry_fits l (sizes_of l (take i m.types))) (sym is) ∙ h.fit i within)

    none : first_break (λ j (t : List ℕ × Ty). type_fits l (sizes_of l (take j m.types)) t.1) 0 m.types ≡ None
    none = breaks_none (λ j (t : List ℕ × Ty). type_fits l (sizes_of l (take j m.types)) t.1) 0 m.types fits
