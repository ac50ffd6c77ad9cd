-- The table of sizes has the numbers of each named type, where each fits and refers to lower numbers alone.
use Rattle.std.proofs.Common.{◌≡◌, ℕ, zero, suc, ◌+◌, Bool, true, false, not, nat_le, List, [], ◌∷◌, map, take, slice_get, is_some, if◌then◌else◌, Option, Some, None, refl, sym, ap, subst, ◌∙◌, arith}
use Rattle.std.specs.List.{list_all}
use Rattle.std.proofs.lemmas.Bool.{and_parts, and_from, eq-eqb}
use Rattle.std.proofs.lemmas.Option.{same_Some, slice_get_within}
use Rattle.no_ir.specs.declared.types.Ty.{Ty, out-Ty, roll-Ty}
use Rattle.no_ir.specs.declared.types.Ty.TheOpen.{Ty-F}
use Rattle.no_ir.specs.declared.types.Ty.TheFolds.{ind-Ty, fold-roll-Ty, map-Ty}
use Rattle.no_ir.specs.declared.types.Ty.TheVariants as ty
use Rattle.no_module.specs.Formed.{type_formed, type_step, types_formed}
use Rattle.no_layout.specs.Sizes.{AreLower, Measure, below_step, entry_below, entry_extent, entry_fits, fields_of, fits_at, known, measure, measure_of, measure_step, names_below, size_limit, sizes_of, type_align, type_size, whole}
use Rattle.no_layout.specs.declared.extent.Extent.{Extent}
use Rattle.no_layout.specs.declared.layout.Layout.{Layout}
use Rattle.no_layout.proofs.Lower.{extent_whole, fits_whole}
use Rattle.no_room.specs.Fits.{type_fits}
use Rattle.no_sound.specs.Sound.{entry_holds, table_holds}
use Rattle.no_sound.proofs.Parts.{measured, named_is}
use Rattle.no_verify_structure.specs.Finding.{first_break}
use Rattle.no_verify_structure.specs.Large.{named_fit}

-- ---- formed types refer to lower numbers alone

module _ (n : ℕ) where
  abbrev Below : Ty → Type 0
  Below t = type_formed n t ≡ true → names_below n t ≡ true

  module _ (S : Type 0) (v : S → Ty) (h : (d : S) → Below (v d)) where
    fields_below : (ds : List S) → list_all (λ b. b) (map (type_formed n) (map v ds)) ≡ true → list_all (λ b. b) (map (names_below n) (map v ds)) ≡ true
    fields_below [] e = refl
    fields_below (d ∷ ds) e =
        let parts = and_parts (type_formed n (v d)) (list_all (λ b. b) (map (type_formed n) (map v ds))) e in
        and_from _ _ (h d parts.0) (fields_below ds parts.1)

    layer : (y : Ty-F S) → type_step n (map-Ty Ty Bool (type_formed n) (map-Ty S Ty v y)) ≡ true → below_step n (map-Ty Ty Bool (names_below n) (map-Ty S Ty v y)) ≡ true
    layer Ty-F.Void e = refl
    layer (Ty-F.Int w) e = refl
    layer Ty-F.Ptr e = refl
    layer (Ty-F.Array count d) e = h d e
    layer (Ty-F.Struct packed ds) e = fields_below ds e
    layer (Ty-F.Named j) e = e

    one_layer : (y : Ty-F S) → Below (roll-Ty (map-Ty S Ty v y))
    one_layer y e =
        let x = map-Ty S Ty v y in
        fold-roll-Ty Bool (below_step n) x ∙ layer y (sym (fold-roll-Ty Bool (type_step n) x) ∙ e)

  formed_below : (t : Ty) → Below t
  formed_below t = ind-Ty Below (λ x y e. subst (λ (z : Ty-F Ty). Below (roll-Ty z)) e (one_layer _ (λ d. d.0) (λ d. d.1) y)) t

more_is : (n k : ℕ) → n + 1 + k ≡ n + suc k
more_is n k = omega arith

zero_more : (n : ℕ) → n + 0 ≡ n
zero_more n = omega arith

zero_plus : (n : ℕ) → 0 + n ≡ n
zero_plus n = omega arith

formed_at : (n : ℕ) (types : List (List ℕ × Ty)) (k : ℕ) → types_formed n types ≡ true → entry_below (n + k) (slice_get types k) ≡ true
formed_at n [] k e = refl
formed_at n (t ∷ types) zero e =
    formed_below (n + 0) t.1 (subst (λ (i : ℕ). type_formed i t.1 ≡ true) (sym (zero_more n)) (and_parts (type_formed n t.1) (types_formed (n + 1) types) e).0)
formed_at n (t ∷ types) (suc k) e =
    subst (λ (i : ℕ). entry_below i (slice_get types k) ≡ true) (more_is n k) (formed_at (n + 1) types k (and_parts (type_formed n t.1) (types_formed (n + 1) types) e).1)

pub types_lower : (types : List (List ℕ × Ty)) → types_formed 0 types ≡ true → AreLower types
types_lower types e k lt = subst (λ (i : ℕ). entry_below i (slice_get types k) ≡ true) (zero_plus k) (formed_at 0 types k e)

-- ---- a type that fits is no larger than any type may be

capped_by : (packed : Bool) (all : Measure) → (whole packed all).fits ≡ true → nat_le (whole packed all).size size_limit ≡ true
capped_by true all e = (and_parts _ (nat_le (whole true all).size size_limit) e).1
capped_by false all e = (and_parts _ (nat_le (whole false all).size size_limit) e).1

capped_known : (o : Option Extent) → (known o).fits ≡ true → nat_le (known o).size size_limit ≡ true
capped_known None e = refl
capped_known (Some x) e = (and_parts true (nat_le x.size size_limit) e).1

module _ (l : Layout) (sizes : List Extent) where
  capped : (s : Ty-F Measure) → (measure_step l sizes s).fits ≡ true → nat_le (measure_step l sizes s).size size_limit ≡ true
  capped Ty-F.Void e = refl
  capped (Ty-F.Int w) e = (and_parts true (nat_le _ size_limit) e).1
  capped Ty-F.Ptr e = (and_parts true (nat_le _ size_limit) e).1
  capped (Ty-F.Array count m) e = (and_parts m.fits (nat_le _ size_limit) e).1
  capped (Ty-F.Struct packed fields) e = capped_by packed (fields_of packed fields) e
  capped (Ty-F.Named k) e = capped_known (slice_get sizes k) e

  small : (t : Ty) → type_fits l sizes t ≡ true → nat_le (type_size l sizes t) size_limit ≡ true
  small t e =
      let is = measured l sizes t in
      ap (λ (m : Measure). nat_le m.size size_limit) is ∙ capped (map-Ty Ty Measure (measure_of l sizes) (out-Ty t)) (sym (ap (λ (m : Measure). m.fits) is) ∙ e)

-- ---- each named type fits by the types before it

keeps_at : (keeps : ℕ → List ℕ × Ty → Bool) (n : ℕ) (types : List (List ℕ × Ty)) (k : ℕ) (named : List ℕ × Ty) → first_break keeps n types ≡ None → slice_get types k ≡ Some named
    → keeps (n + k) named ≡ true
keeps_at keeps n [] k named e is = absurd cc
keeps_at keeps n (t ∷ types) k named e is = go (keeps n t) k refl (λ j. keeps_at keeps (n + 1) types j named) e is
  where
    go : (b : Bool) (k : ℕ) → keeps n t ≡ b → ((j : ℕ) → first_break keeps (n + 1) types ≡ None → slice_get types j ≡ Some named → keeps (n + 1 + j) named ≡ true)
        → (if b then first_break keeps (n + 1) types else Some n) ≡ None → slice_get (t ∷ types) k ≡ Some named → keeps (n + k) named ≡ true
    go true zero here more rest is =
        subst (λ (i : ℕ). keeps i named ≡ true) (sym (zero_more n)) (subst (λ (x : List ℕ × Ty). keeps n x ≡ true) (same_Some t named is) here)
    go true (suc k) here more rest is = subst (λ (i : ℕ). keeps i named ≡ true) (more_is n k) (more k rest is)
    go false k here more rest is = absurd cc

none_of : (o : Option ℕ) → not (is_some o) ≡ true → o ≡ None
none_of None e = refl
none_of (Some k) e = absurd cc

named_at : (l : Layout) (types : List (List ℕ × Ty)) (k : ℕ) (named : List ℕ × Ty) → named_fit l types ≡ true → slice_get types k ≡ Some named
    → type_fits l (sizes_of l (take k types)) named.1 ≡ true
named_at l types k named e is =
    let keeps = λ (k : ℕ) (named : List ℕ × Ty). type_fits l (sizes_of l (take k types)) named.1 in
    subst (λ (i : ℕ). type_fits l (sizes_of l (take i types)) named.1 ≡ true) (zero_plus k)
    (keeps_at keeps 0 types k named (none_of (first_break keeps 0 types) e) is)

-- ---- the table

table_from : (l : Layout) (sizes : List Extent) (n : ℕ) (types : List (List ℕ × Ty))
    → ((k : ℕ) (named : List ℕ × Ty) → slice_get types k ≡ Some named → entry_holds l sizes (n + k) named.1 ≡ true) → table_holds l sizes n types ≡ true
table_from l sizes n [] h = refl
table_from l sizes n (t ∷ types) h =
    and_from _ _ (subst (λ (i : ℕ). entry_holds l sizes i t.1 ≡ true) (zero_more n) (h 0 t refl))
    (table_from l sizes (n + 1) types (λ k named is. subst (λ (i : ℕ). entry_holds l sizes i named.1 ≡ true) (sym (more_is n k)) (h (suc k) named is)))

module _ (l : Layout) (types : List (List ℕ × Ty)) (formed : types_formed 0 types ≡ true) (fit : named_fit l types ≡ true) where
  module _ (k : ℕ) (named : List ℕ × Ty) (is : slice_get types k ≡ Some named) where
    fits_by : type_fits l (sizes_of l types) named.1 ≡ true
    fits_by =
        let front : fits_at l types k ≡ true = ap (entry_fits l (sizes_of l (take k types))) is ∙ named_at l types k named fit is in
        sym (ap (entry_fits l (sizes_of l types)) is) ∙ sym (fits_whole l types (types_lower types formed) k (slice_get_within types k named is)) ∙ front

    numbers : measure_of l (sizes_of l types) (ty.Named k) ≡ measure (type_size l (sizes_of l types) named.1) (type_align l (sizes_of l types) named.1) true
    numbers =
        named_is l (sizes_of l types) k
        ∙ ap known (extent_whole l types (types_lower types formed) k (slice_get_within types k named is) ∙ ap (entry_extent l (sizes_of l types)) is)

    entry : entry_holds l (sizes_of l types) k named.1 ≡ true
    entry =
        let size = ap (λ (m : Measure). m.size) numbers in
        let align = ap (λ (m : Measure). m.align) numbers in
        let fits = ap (λ (m : Measure). m.fits) numbers ∙ small l (sizes_of l types) named.1 fits_by in
        and_from _ _ fits_by (and_from _ _ fits (and_from _ _ (eq-eqb _ _ size) (eq-eqb _ _ align)))

  pub table_is : table_holds l (sizes_of l types) 0 types ≡ true
  table_is = table_from l (sizes_of l types) 0 types (λ k named is. subst (λ (i : ℕ). entry_holds l (sizes_of l types) i named.1 ≡ true) (sym (zero_plus k)) (entry k named is))
