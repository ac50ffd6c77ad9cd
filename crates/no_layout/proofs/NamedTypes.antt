-- The numbers of the named types, one by one from the first.
use Rattle.std.proofs.Common.{◌≡◌, ℕ, ◌+◌, ◌<◌, true, false, List, [], ◌∷◌, ◌++◌, length, get_or, take, refl, sym, ap, ◌∙◌, below_more}
use Rattle.std.proofs.lemmas.List.Sums.{fold_more}
use Rattle.std.proofs.lemmas.Option.{slice_get_read}
use Rattle.no_ir.specs.declared.types.Ty.{Ty}
use Rattle.no_layout.specs.Sizes.{IsTooLarge, entry_fits, extent_of, fits_at, measure_of, sizes_of, with_type}
use Rattle.no_layout.specs.Measured.{Agrees}
use Rattle.no_layout.specs.declared.extent.Extent.{Extent}
use Rattle.no_layout.specs.declared.layout.Layout.{Layout}

module _ (l : Layout) (types : List (List ℕ × Ty)) (i : ℕ) (named : List ℕ × Ty) (sizes : List Extent) (lt : i < length types) (e : named ≡ get_or types i named) (s : sizes ≡ sizes_of l (take i types)) where
  fits_is : fits_at l types i ≡ (measure_of l sizes named.1).fits
  fits_is =
      ap (entry_fits l (sizes_of l (take i types))) (slice_get_read types (length types) i named refl lt e)
      ∙ ap (λ (before : List Extent). (measure_of l before named.1).fits) (sym s)

  -- a type that does not fit, behind others that do
  pub type_large : (number : ℕ) → number ≡ i → (measure_of l sizes named.1).fits ≡ false → ((k : ℕ) → k < i → fits_at l types k ≡ true) → IsTooLarge l types number
  type_large number n unfit before =
      rw n (record { within = lt; large = fits_is ∙ unfit; first = before })

  -- one type more
  pub table_more : (one : Extent) (new : List Extent) → Agrees one (measure_of l sizes named.1) → new ≡ sizes ++ one ∷ [] → new ≡ sizes_of l (take (i + 1) types)
  table_more one new a n =
      let is : one ≡ extent_of (measure_of l sizes named.1) = λ j. record { size = a.size j; align = a.align j } in
      n ∙ ap (λ (x : Extent). sizes ++ x ∷ []) is
      ∙ ap (λ (before : List Extent). with_type l before named) s
      ∙ ap (with_type l (sizes_of l (take i types))) e
      ∙ sym (fold_more (with_type l) [] types i named lt)

  pub types_fit : (one : Extent) → Agrees one (measure_of l sizes named.1) → ((k : ℕ) → k < i → fits_at l types k ≡ true) → (k : ℕ) → k < i + 1 → fits_at l types k ≡ true
  types_fit one a before = below_more _ _ before (fits_is ∙ a.fits)
