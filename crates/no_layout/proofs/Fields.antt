-- The fields of a struct, one by one from the front.
use Rattle.std.proofs.Common.{◌≡◌, ℕ, ◌+◌, ◌<◌, ◌≤◌, Bool, true, false, List, [], ◌∷◌, map, length, get_or, take, drop, ◌⊎◌, inl, inr, Option, Some, slice_get, refl, sym, ap, subst, ◌∙◌, arith}
use Rattle.std.specs.List.{fold}
use Rattle.std.specs.Int.{next_multiple_of}
use Rattle.std.specs.Option.{option_map}
use Rattle.std.proofs.lemmas.Option.{slice_get-map, slice_get_read}
use Rattle.std.proofs.lemmas.Bool.{and_left, and_right, both_ways, lt-leb}
use Rattle.std.proofs.lemmas.List.{at_drop_more, take-append-drop, map-append}
use Rattle.std.proofs.lemmas.List.Sums.{fold-append}
use Rattle.no_ir.specs.declared.types.Ty.{Ty}
use Rattle.no_layout.specs.Sizes.{Measure, fields_of, no_fields, offset_in, place_after, size_limit, whole, with_field}
use Rattle.no_layout.specs.Measured.{Agrees}
use Rattle.no_layout.specs.Measures.{reached}
use Rattle.no_layout.specs.declared.extent.Extent.{Extent}

-- the numbers of fields, behind others that end in `all`
abbrev pub on_from : Bool → Measure → List Measure → Measure
on_from packed = fold (with_field packed)

-- once one does not fit, they do not
stays_unfit : (packed : Bool) (all : Measure) (ms : List Measure) → all.fits ≡ false → (on_from packed all ms).fits ≡ false
stays_unfit packed all [] h = h
stays_unfit packed all (m ∷ ms) h = stays_unfit packed (with_field packed all m) ms (and_left all.fits m.fits h)

grows_once : (packed : Bool) (all m : Measure) → all.size ≤ (with_field packed all m).size
grows_once true all m = omega arith
grows_once false all m = omega arith

-- the end of the fields only grows
grows : (packed : Bool) (all : Measure) (ms : List Measure) → all.size ≤ (on_from packed all ms).size
grows packed all [] = omega arith
grows packed all (m ∷ ms) =
    let once = grows_once packed all m in
    let more = grows packed (with_field packed all m) ms in
    omega (arith, once, more)

whole_unfit : (packed : Bool) (all : Measure) → all.fits ≡ false → (whole packed all).fits ≡ false
whole_unfit true all h = and_left all.fits _ h
whole_unfit false all h = and_left all.fits _ h

whole_large : (packed : Bool) (all : Measure) → size_limit < all.size → (whole packed all).fits ≡ false
whole_large true all h = and_right all.fits _ (lt-leb all.size size_limit h)
whole_large false all h = and_right all.fits _ (lt-leb (next_multiple_of all.size all.align) size_limit (omega arith))

pub same_measure : (e : Extent) (m : Measure) → Agrees e m → reached e ≡ m
same_measure e m a = λ j. record { size = a.size j; align = a.align j; fits = sym a.fits j }

module _ (packed : Bool) (f : Ty → Measure) (ts : List Ty) where
  -- the numbers of all fields, where those before field i end in `all`
  abbrev pub rest_from : Extent → ℕ → Measure
  rest_from all i = on_from packed (reached all) (map f (drop i ts))

  next_field : (all : Extent) (i : ℕ) (t : Ty) → i < length ts → t ≡ get_or ts i t → rest_from all i ≡ on_from packed (with_field packed (reached all) (f t)) (map f (drop (i + 1) ts))
  next_field all i t h e =
      let step = at_drop_more (λ (us : List Ty). on_from packed (reached all) (map f us)) ts i t h in
      step ∙ ap (λ (u : Ty). on_from packed (with_field packed (reached all) (f u)) (map f (drop (i + 1) ts))) (sym e)

  pub fields_more : (all one more : Extent) (i : ℕ) (t : Ty) (said : Measure) → i < length ts → t ≡ get_or ts i t → Agrees one (f t) → reached more ≡ with_field packed (reached all) (reached one) → rest_from all i ≡ said → rest_from more (i + 1) ≡ said
  fields_more all one more i t said h e a w s =
      let same : reached one ≡ f t = same_measure one (f t) a in
      ap (λ (m : Measure). on_from packed m (map f (drop (i + 1) ts))) (w ∙ ap (with_field packed (reached all)) same) ∙ sym (next_field all i t h e) ∙ s

  -- a field that does not fit
  pub fields_unfit : (all : Extent) (i : ℕ) (t : Ty) (said : Measure) → i < length ts → t ≡ get_or ts i t → (f t).fits ≡ false → rest_from all i ≡ said → (said.fits ≡ false) ⊎ (size_limit < said.size)
  fields_unfit all i t said h e u s =
      let no = stays_unfit packed (with_field packed (reached all) (f t)) (map f (drop (i + 1) ts)) u in
      inl (ap (λ (m : Measure). m.fits) (sym s ∙ next_field all i t h e) ∙ no)

  -- a field that ends too far
  pub fields_large : (all one : Extent) (i : ℕ) (t : Ty) (said : Measure) → i < length ts → t ≡ get_or ts i t → Agrees one (f t) → size_limit < (with_field packed (reached all) (reached one)).size → rest_from all i ≡ said → (said.fits ≡ false) ⊎ (size_limit < said.size)
  fields_large all one i t said h e a l s =
      let same : reached one ≡ f t = same_measure one (f t) a in
      let next = with_field packed (reached all) (f t) in
      let far : size_limit < next.size = subst (λ (m : Measure). size_limit < (with_field packed (reached all) m).size) same l in
      let on = grows packed next (map f (drop (i + 1) ts)) in
      let is : said ≡ on_from packed next (map f (drop (i + 1) ts)) = sym s ∙ next_field all i t h e in
      inr (rw is (omega (arith, far, on)))

-- a struct whose fields do not fit does not fit
pub whole_over : (packed : Bool) (all : Measure) → (all.fits ≡ false) ⊎ (size_limit < all.size) → (whole packed all).fits ≡ false
whole_over packed all (inl h) = whole_unfit packed all h
whole_over packed all (inr h) = whole_large packed all h

-- ---- a field of a struct that fits

over_from : (packed : Bool) (all : Measure) (ms : List Measure) → (all.fits ≡ false) ⊎ (size_limit < all.size) → (whole packed (on_from packed all ms)).fits ≡ true → ⊥
over_from packed all ms (inl h) fits = both_ways _ (whole_unfit packed (on_from packed all ms) (stays_unfit packed all ms h)) fits
over_from packed all ms (inr h) fits =
    let on = grows packed all ms in
    both_ways _ (whole_large packed (on_from packed all ms) (omega (arith, on))) fits

module _ (packed : Bool) (f : Ty → Measure) (ts : List Ty) (k : ℕ) (fits : (whole packed (fields_of packed (map f ts))).fits ≡ true) where
  parted : fields_of packed (map f ts) ≡ on_from packed (fields_of packed (map f (take k ts))) (map f (drop k ts))
  parted =
      ap (λ (us : List Ty). fields_of packed (map f us)) (sym (take-append-drop k ts))
      ∙ ap (fields_of packed) (map-append f (take k ts) (drop k ts))
      ∙ fold-append (with_field packed) no_fields (map f (take k ts)) (map f (drop k ts))

  -- the fields before it end within the limit
  pub before_fits : ((fields_of packed (map f (take k ts))).fits ≡ false) ⊎ (size_limit < (fields_of packed (map f (take k ts))).size) → ⊥
  before_fits over = over_from packed (fields_of packed (map f (take k ts))) (map f (drop k ts)) over (rw parted at fits)

  -- it fits itself
  pub field_fits : (t : Ty) → k < length ts → t ≡ get_or ts k t → (f t).fits ≡ false → ⊥
  field_fits t lt e unfit =
      let b = fields_of packed (map f (take k ts)) in
      let one : on_from packed b (map f (drop k ts)) ≡ on_from packed (with_field packed b (f t)) (map f (drop (k + 1) ts)) =
      at_drop_more (λ (us : List Ty). on_from packed b (map f us)) ts k t lt ∙ ap (λ (u : Ty). on_from packed (with_field packed b (f u)) (map f (drop (k + 1) ts))) (sym e) in
      over_from packed (with_field packed b (f t)) (map f (drop (k + 1) ts)) (inl (and_right b.fits _ unfit)) (rw (parted ∙ one) at fits)

-- where a field begins, from the numbers of those before it and its own
pub offset_at : (packed : Bool) (f : Ty → Measure) (ts : List Ty) (k : ℕ) (t : Ty) (before one : Extent) (place : ℕ) → k < length ts → t ≡ get_or ts k t → Agrees one (f t) → reached before ≡ fields_of packed (map f (take k ts)) → place ≡ place_after packed before.size one.align → place ≡ offset_in packed (map f (take k ts)) (slice_get (map f ts) k)
offset_at packed f ts k t before one place lt e a b p =
    let there : slice_get (map f ts) k ≡ Some (f t) = slice_get-map f ts k ∙ ap (λ (o : Option Ty). option_map f o) (slice_get_read ts (length ts) k t refl lt e) in
    let size : before.size ≡ (fields_of packed (map f (take k ts))).size = ap (λ (m : Measure). m.size) b in
    rw there (p ∙ (λ j. place_after packed (size j) (a.align j)))
