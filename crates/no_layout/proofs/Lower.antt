-- Named types that refer to lower ones alone have the same numbers by the whole table as by the part before them.
use Rattle.std.proofs.Common.{append-nil, ◌≡◌, ℕ, zero, suc, ◌+◌, ◌<◌, Bool, true, List, [], ◌∷◌, ◌++◌, map, length, take, drop, Option, Some, None, slice_get, refl, sym, ap, subst, ◌∙◌, arith}
use Rattle.std.specs.List.{fold, list_all}
use Rattle.std.proofs.lemmas.Bool.{and_parts, ltb-true}
use Rattle.std.proofs.lemmas.List.{append_assoc, take-append-drop, length-take-le}
use Rattle.std.proofs.lemmas.List.Sums.{fold-append, fold_more}
use Rattle.std.proofs.lemmas.Option.{get_or_from_slice_get}
use Rattle.no_ir.specs.declared.types.Ty.{Ty, roll-Ty}
use Rattle.no_ir.specs.declared.types.Ty.TheOpen.{Ty-F}
use Rattle.no_ir.specs.declared.types.Ty.TheFolds.{ind-Ty, fold-roll-Ty, map-Ty}
use Rattle.no_layout.specs.Sizes.{AreLower, Measure, below_step, entry_below, entry_extent, entry_fits, extent_of, fields_of, fits_at, known, measure_of, measure_step, names_below, sizes_of, whole, with_type}
use Rattle.no_layout.specs.declared.extent.Extent.{Extent}
use Rattle.no_layout.specs.declared.layout.Layout.{Layout}

module _ (l : Layout) (s r : List Extent) (k : ℕ) (same : (j : ℕ) → j < k → slice_get s j ≡ slice_get r j) where
  abbrev Same : Ty → Type 0
  Same t = names_below k t ≡ true → measure_of l s t ≡ measure_of l r t

  module _ (S : Type 0) (v : S → Ty) (h : (d : S) → Same (v d)) where
    same_fields : (ds : List S) → list_all (λ b. b) (map (names_below k) (map v ds)) ≡ true → map (measure_of l s) (map v ds) ≡ map (measure_of l r) (map v ds)
    same_fields [] b = refl
    same_fields (d ∷ ds) b =
        let parts = and_parts (names_below k (v d)) (list_all (λ c. c) (map (names_below k) (map v ds))) b in
        let first : measure_of l s (v d) ≡ measure_of l r (v d) = h d parts.0 in
        let more = same_fields ds parts.1 in
        λ j. first j ∷ more j

    layer : (y : Ty-F S) → below_step k (map-Ty Ty Bool (names_below k) (map-Ty S Ty v y)) ≡ true → measure_step l s (map-Ty Ty Measure (measure_of l s) (map-Ty S Ty v y)) ≡ measure_step l r (map-Ty Ty Measure (measure_of l r) (map-Ty S Ty v y))
    layer Ty-F.Void b = refl
    layer (Ty-F.Int width) b = refl
    layer Ty-F.Ptr b = refl
    layer (Ty-F.Array count d) b = ap (λ (m : Measure). measure_step l s (Ty-F.Array count m)) (h d b)
    layer (Ty-F.Struct packed ds) b = ap (λ (ms : List Measure). whole packed (fields_of packed ms)) (same_fields ds b)
    layer (Ty-F.Named j) b = ap known (same j (ltb-true j k b))

    one_layer : (y : Ty-F S) → Same (roll-Ty (map-Ty S Ty v y))
    one_layer y b =
        let x = map-Ty S Ty v y in
        fold-roll-Ty Measure (measure_step l s) x
        ∙ layer y (sym (fold-roll-Ty Bool (below_step k) x) ∙ b)
        ∙ sym (fold-roll-Ty Measure (measure_step l r) x)

  same_measure : (t : Ty) → Same t
  same_measure t = ind-Ty Same (λ x y e. subst (λ (z : Ty-F Ty). Same (roll-Ty z)) e (one_layer _ (λ d. d.0) (λ d. d.1) y)) t

-- ---- the table

grows : (l : Layout) (before : List Extent) (types : List (List ℕ × Ty)) → (rest : List Extent) × (fold (with_type l) before types ≡ before ++ rest) × (length rest ≡ length types)
grows l before [] = ([], sym (append-nil before), refl)
grows l before (t ∷ types) =
    let one = extent_of (measure_of l before t.1) in
    let more = grows l (with_type l before t) types in
    (one ∷ more.0, more.1 ∙ append_assoc before (one ∷ []) more.0, ap suc more.2)

table_length : (l : Layout) (types : List (List ℕ × Ty)) → length (sizes_of l types) ≡ length types
table_length l types = let g = grows l [] types in ap length g.1 ∙ g.2

-- the table of the first k types is the front of the table of all
front_is : (l : Layout) (types : List (List ℕ × Ty)) (k : ℕ) → (rest : List Extent) × (sizes_of l types ≡ sizes_of l (take k types) ++ rest)
front_is l types k =
    let g = grows l (sizes_of l (take k types)) (drop k types) in
    let parted : sizes_of l types ≡ fold (with_type l) (sizes_of l (take k types)) (drop k types) =
    ap (sizes_of l) (sym (take-append-drop k types)) ∙ fold-append (with_type l) [] (take k types) (drop k types) in
    (g.0, parted ∙ g.1)

get_front : (xs ys : List Extent) (j : ℕ) → j < length xs → slice_get (xs ++ ys) j ≡ slice_get xs j
get_front [] ys j h = absurd (omega arith)
get_front (x ∷ xs) ys zero h = refl
get_front (x ∷ xs) ys (suc j) h = get_front xs ys j (omega arith)

get_last : (xs : List Extent) (y : Extent) (k : ℕ) → length xs ≡ k → slice_get (xs ++ y ∷ []) k ≡ Some y
get_last [] y k h = rw (← h) refl
get_last (x ∷ xs) y k h = rw (← h) (get_last xs y (length xs) refl)

none_past : (types : List (List ℕ × Ty)) (k : ℕ) → slice_get types k ≡ None → k < length types → ⊥
none_past [] k e h = omega arith
none_past (t ∷ types) zero e h = cc
none_past (t ∷ types) (suc k) e h = none_past types k e (omega arith)

-- the numbers of type k in the table are those by the types before it
entry_in : (l : Layout) (types : List (List ℕ × Ty)) (k : ℕ) (o : Option (List ℕ × Ty)) → k < length types → slice_get types k ≡ o → slice_get (sizes_of l types) k ≡ entry_extent l (sizes_of l (take k types)) o
entry_in l types k None lt e = absurd (none_past types k e lt)
entry_in l types k (Some named) lt e =
    let before = sizes_of l (take k types) in
    let len : length before ≡ k = table_length l (take k types) ∙ length-take-le k types (omega arith) in
    let next : sizes_of l (take (k + 1) types) ≡ before ++ extent_of (measure_of l before named.1) ∷ [] =
    fold_more (with_type l) [] types k named lt ∙ ap (with_type l before) (get_or_from_slice_get types k named named e) in
    let f = front_is l types (k + 1) in
    let long : length (sizes_of l (take (k + 1) types)) ≡ k + 1 = table_length l (take (k + 1) types) ∙ length-take-le (k + 1) types (omega arith) in
    ap (λ (xs : List Extent). slice_get xs k) f.1
    ∙ get_front (sizes_of l (take (k + 1) types)) f.0 k (omega arith)
    ∙ ap (λ (xs : List Extent). slice_get xs k) next
    ∙ get_last before (extent_of (measure_of l before named.1)) k len

module _ (l : Layout) (types : List (List ℕ × Ty)) (lower : AreLower types) (k : ℕ) (lt : k < length types) where
  same_below : (j : ℕ) → j < k → slice_get (sizes_of l (take k types)) j ≡ slice_get (sizes_of l types) j
  same_below j h =
      let f = front_is l types k in
      let len : length (sizes_of l (take k types)) ≡ k = table_length l (take k types) ∙ length-take-le k types (omega arith) in
      rw f.1 (sym (get_front (sizes_of l (take k types)) f.0 j (omega arith)))

  entry_same : (o : Option (List ℕ × Ty)) → entry_below k o ≡ true → entry_fits l (sizes_of l (take k types)) o ≡ entry_fits l (sizes_of l types) o
  entry_same None b = refl
  entry_same (Some named) b = ap (λ (m : Measure). m.fits) (same_measure l (sizes_of l (take k types)) (sizes_of l types) k same_below named.1 b)

  -- a named type fits by the whole table where it fits by the part before it
  pub fits_whole : fits_at l types k ≡ entry_fits l (sizes_of l types) (slice_get types k)
  fits_whole = entry_same (slice_get types k) (lower k lt)

  extent_same : (o : Option (List ℕ × Ty)) → entry_below k o ≡ true → entry_extent l (sizes_of l (take k types)) o ≡ entry_extent l (sizes_of l types) o
  extent_same None b = refl
  extent_same (Some named) b = ap (λ (m : Measure). Some (extent_of m)) (same_measure l (sizes_of l (take k types)) (sizes_of l types) k same_below named.1 b)

  -- its numbers in the table are those by the whole table
  pub extent_whole : slice_get (sizes_of l types) k ≡ entry_extent l (sizes_of l types) (slice_get types k)
  extent_whole = entry_in l types k (slice_get types k) lt refl ∙ extent_same (slice_get types k) (lower k lt)
