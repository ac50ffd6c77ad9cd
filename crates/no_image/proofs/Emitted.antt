-- Bytes of constants, one element or field more at a time.
use Rattle.std.proofs.Common.{◌≡◌, ℕ, zero, suc, ◌+◌, ◌-◌, ◌<◌, ◌≤◌, inl, inr, Bool, true, List, [], ◌∷◌, ◌++◌, map, take, drop, length, get_or, replicate, slice_get, Some, refl, sym, ap, subst, ◌∙◌, arith, append_assoc, length-append}
use Rattle.std.specs.List.{list_all}
use Rattle.std.specs.Option.{option_map}
use Rattle.std.proofs.lemmas.Bool.{and_parts, cases_lt}
use Rattle.std.proofs.lemmas.List.{at_drop_more, drop_all, map-append}
use Rattle.std.proofs.lemmas.List.Sums.{fold-append}
use Rattle.std.proofs.lemmas.Option.{slice_get-map, slice_get_read}
use Rattle.std.proofs.Math.Seq.{drop-cons, take-add}
use Rattle.no_ir.specs.declared.types.Ty.{Ty, out-Ty}
use Rattle.no_ir.specs.declared.types.Ty.TheOpen.{Ty-F}
use Rattle.no_ir.specs.declared.constant.Const.{Const}
use Rattle.no_ir.specs.declared.constant.Const.TheOpen.{Const-F}
use Rattle.no_ir.specs.declared.constant.Const.TheFolds.{fold-roll-Const}
use Rattle.no_ir.specs.declared.constant.Const.TheVariants.{Array, Struct, rolls-Array, rolls-Struct}
use Rattle.no_ir.specs.declared.function.Module.{Module}
use Rattle.no_layout.specs.Sizes.{Measure, fields_of, measure_of, no_fields, offset_in, offset_of, offset_step, place_after, size_limit, type_size, type_align, whole, with_field}
use Rattle.no_layout.specs.declared.extent.Extent.{Extent}
use Rattle.no_layout.specs.declared.layout.Layout.{Layout}
use Rattle.no_layout.proofs.Fields.{before_fits}
use Rattle.no_semantics.specs.First.{constant_bytes, elements_bytes, field_or, field_step, fields_bytes, padded}
use Rattle.no_semantics.specs.Indices.{resolved}
use Rattle.no_semantics.specs.Sound.{type_fits}
use Rattle.no_semantics.specs.Values.{Program}
use Rattle.no_semantics.proofs.Parts.{in_struct, rolled}
use Rattle.no_image.specs.Fits.{each_fits, elements_fit, fields_fit, init_fits, init_step}

-- ---- what an initialiser's parts are

module _ (m : Module) (l : Layout) (sizes : List Extent) (c : Const) (parts : List Const) (t u : Ty) (is : u ≡ resolved m.types t) (fits : init_fits m l sizes c t ≡ true) where
  pub array_init : c ≡ Array parts → elements_fit (out-Ty u) (map (init_fits m l sizes) parts) ≡ true
  array_init e =
      let step : init_fits m l sizes c t ≡ elements_fit (out-Ty (resolved m.types t)) (map (init_fits m l sizes) parts) =
      ap (λ (d : Const). init_fits m l sizes d t) (e ∙ sym (rolls-Array parts)) ∙ ap (λ (f : Ty → Bool). f t) (fold-roll-Const (Ty → Bool) (init_step m l sizes) (Const-F.Array parts)) in
      ap (λ (v : Ty). elements_fit (out-Ty v) (map (init_fits m l sizes) parts)) is ∙ sym step ∙ fits

  pub struct_init : c ≡ Struct parts → fields_fit (out-Ty u) (map (init_fits m l sizes) parts) ≡ true
  struct_init e =
      let step : init_fits m l sizes c t ≡ fields_fit (out-Ty (resolved m.types t)) (map (init_fits m l sizes) parts) =
      ap (λ (d : Const). init_fits m l sizes d t) (e ∙ sym (rolls-Struct parts)) ∙ ap (λ (f : Ty → Bool). f t) (fold-roll-Const (Ty → Bool) (init_step m l sizes) (Const-F.Struct parts)) in
      ap (λ (v : Ty). fields_fit (out-Ty v) (map (init_fits m l sizes) parts)) is ∙ sym step ∙ fits

module _ (fit : Const → Ty → Bool) where
  pub element_init : (t : Ty) (cs : List Const) (k : ℕ) (c : Const) → list_all (λ (f : Ty → Bool). f t) (map fit cs) ≡ true → k < length cs → c ≡ get_or cs k c → fit c t ≡ true
  element_init t [] k c all lt is = absurd (omega arith)
  element_init t (x ∷ cs) zero c all lt is = ap (λ (d : Const). fit d t) is ∙ (and_parts (fit x t) (list_all (λ (f : Ty → Bool). f t) (map fit cs)) all).0
  element_init t (x ∷ cs) (suc k) c all lt is = element_init t cs k c (and_parts (fit x t) (list_all (λ (f : Ty → Bool). f t) (map fit cs)) all).1 (omega arith) is

  pub as_many : (ts : List Ty) (cs : List Const) → each_fits ts (map fit cs) ≡ true → length cs ≡ length ts
  as_many [] [] e = refl
  as_many [] (c ∷ cs) e = absurd cc
  as_many (t ∷ ts) [] e = absurd cc
  as_many (t ∷ ts) (c ∷ cs) e = ap suc (as_many ts cs (and_parts (fit c t) (each_fits ts (map fit cs)) e).1)

  pub field_init : (ts : List Ty) (cs : List Const) (k : ℕ) (c : Const) (u : Ty) → each_fits ts (map fit cs) ≡ true → k < length cs → c ≡ get_or cs k c → u ≡ get_or ts k u → fit c u ≡ true
  field_init [] [] k c u e lt ic iu = absurd (omega arith)
  field_init [] (x ∷ cs) k c u e lt ic iu = absurd cc
  field_init (t ∷ ts) [] k c u e lt ic iu = absurd cc
  field_init (t ∷ ts) (x ∷ cs) zero c u e lt ic iu =
      ap (λ (d : Const). fit d u) ic ∙ ap (fit x) iu ∙ (and_parts (fit x t) (each_fits ts (map fit cs)) e).0
  field_init (t ∷ ts) (x ∷ cs) (suc k) c u e lt ic iu = field_init ts cs k c u (and_parts (fit x t) (each_fits ts (map fit cs)) e).1 (omega arith) ic iu

-- ---- the elements of an array

gap_is : (a b c : ℕ) → a + c - (a + b) ≡ c - b
gap_is a b c = omega arith

-- bytes behind others, and zeros up to a length
padded_behind : (out x : List ℕ) (to stride : ℕ) → to ≡ length out + stride → (out ++ x) ++ replicate (to - length (out ++ x)) 0 ≡ out ++ padded stride x
padded_behind out x to stride is =
    let gap : to - length (out ++ x) ≡ stride - length x =
    ap (λ (n : ℕ). n - length (out ++ x)) is ∙ ap (λ (n : ℕ). length out + stride - n) (length-append out x) ∙ gap_is (length out) (length x) stride in
    ap (λ (n : ℕ). (out ++ x) ++ replicate n 0) gap ∙ append_assoc out x (replicate (stride - length x) 0)

module _ (f : Const → Ty → List ℕ) (t : Ty) (stride : ℕ) where
  abbrev pub rest_bytes : List Const → List ℕ
  rest_bytes cs = elements_bytes stride (map (λ (g : Ty → List ℕ). g t) (map f cs))

  pub element_more : (whole out mid new : List ℕ) (cs : List Const) (k to : ℕ) (c : Const) → whole ≡ out ++ rest_bytes (drop k cs) → k < length cs → c ≡ get_or cs k c
      → to ≡ length out + stride → mid ≡ out ++ f c t → new ≡ mid ++ replicate (to - length mid) 0 → whole ≡ new ++ rest_bytes (drop (k + 1) cs)
  element_more whole out mid new cs k to c so_far lt is end m n =
      let next : rest_bytes (drop k cs) ≡ padded stride (f c t) ++ rest_bytes (drop (k + 1) cs) =
      at_drop_more rest_bytes cs k c lt ∙ ap (λ (d : Const). padded stride (f d t) ++ rest_bytes (drop (k + 1) cs)) (sym is) in
      let wrote : new ≡ out ++ padded stride (f c t) =
      n ∙ ap (λ (xs : List ℕ). xs ++ replicate (to - length xs) 0) m ∙ padded_behind out (f c t) to stride end in
      so_far ∙ ap (λ (xs : List ℕ). out ++ xs) next ∙ sym (append_assoc out (padded stride (f c t)) (rest_bytes (drop (k + 1) cs)))
      ∙ ap (λ (xs : List ℕ). xs ++ rest_bytes (drop (k + 1) cs)) (sym wrote)

-- ---- the fields of a struct

suc_is : (k : ℕ) → suc k ≡ k + 1
suc_is k = omega arith

module _ (l : Layout) (sizes : List Extent) (t : Ty) (packed : Bool) (ts : List Ty) (shape : out-Ty t ≡ Ty-F.Struct packed ts) (k : ℕ) (u : Ty) (lt : k < length ts) (is : u ≡ get_or ts k u) where
  measure : Ty → Measure
  measure = measure_of l sizes

  whole_is : measure_of l sizes t ≡ whole packed (fields_of packed (map (measure_of l sizes) ts))
  whole_is = rolled l sizes t (Ty-F.Struct packed ts) shape

  pub field_fits : type_fits l sizes t ≡ true → type_fits l sizes u ≡ true
  field_fits fits = in_struct l sizes packed ts k u (sym (ap (λ (m : Measure). m.fits) whole_is) ∙ fits) (slice_get_read ts (length ts) k u refl lt is)

  -- the fields before it end within the limit
  pub end_low : (end : ℕ) → type_fits l sizes t ≡ true → end ≡ (fields_of packed (map (measure_of l sizes) (take k ts))).size → end ≤ size_limit
  end_low end fits e = elim (cases_lt size_limit end) [
    | inl over ↦ absurd (before_fits packed (measure_of l sizes) ts k (sym (ap (λ (m : Measure). m.fits) whole_is) ∙ fits)
        (inr (subst (λ (n : ℕ). size_limit < n) e over)))
    | inr within ↦ within
  ]

  front : take (k + 1) ts ≡ take k ts ++ u ∷ []
  front =
      let parts : drop k ts ≡ u ∷ drop (k + 1) ts = drop-cons ts k u lt ∙ ap (λ (x : Ty). x ∷ drop (suc k) ts) (sym is) ∙ ap (λ (j : ℕ). u ∷ drop j ts) (suc_is k) in
      take-add k 1 ts ∙ ap (λ (others : List Ty). take k ts ++ take 1 others) parts

  -- the end with this field
  pub end_more : (end next : ℕ) → end ≡ (fields_of packed (map (measure_of l sizes) (take k ts))).size
      → next ≡ place_after packed end (type_align l sizes u) + type_size l sizes u → next ≡ (fields_of packed (map (measure_of l sizes) (take (k + 1) ts))).size
  end_more end next e n =
      let all : fields_of packed (map (measure_of l sizes) (take (k + 1) ts)) ≡ with_field packed (fields_of packed (map (measure_of l sizes) (take k ts))) (measure_of l sizes u) =
      ap (λ (us : List Ty). fields_of packed (map (measure_of l sizes) us)) front
      ∙ ap (fields_of packed) (map-append (measure_of l sizes) (take k ts) (u ∷ []))
      ∙ fold-append (with_field packed) no_fields (map (measure_of l sizes) (take k ts)) (measure_of l sizes u ∷ []) in
      n ∙ ap (λ (at : ℕ). place_after packed at (type_align l sizes u) + type_size l sizes u) e ∙ sym (ap (λ (m : Measure). m.size) all)

  -- where it stands
  pub place_is : (end : ℕ) → end ≡ (fields_of packed (map (measure_of l sizes) (take k ts))).size → place_after packed end (type_align l sizes u) ≡ offset_of l sizes t k
  place_is end e =
      let here : slice_get (map (measure_of l sizes) ts) k ≡ Some (measure_of l sizes u) =
      slice_get-map (measure_of l sizes) ts k ∙ ap (option_map (measure_of l sizes)) (slice_get_read ts (length ts) k u refl lt is) in
      ap (λ (at : ℕ). place_after packed at (type_align l sizes u)) e
      ∙ sym (ap (offset_in packed (map (measure_of l sizes) (take k ts))) here)
      ∙ sym (ap (λ (s : Ty-F Ty). offset_step l sizes s k) shape)

  pub type_is : field_step (out-Ty t) k ≡ u
  type_is = ap (λ (s : Ty-F Ty). field_step s k) shape ∙ ap field_or (slice_get_read ts (length ts) k u refl lt is)

module _ (p : Program) (t : Ty) where
  abbrev pub left_bytes : ℕ → List ℕ → List Const → List ℕ
  left_bytes k before cs = fields_bytes p t k before (map (constant_bytes p) cs)

  -- one field more
  pub field_more : (whole out new start before : List ℕ) (cs : List Const) (k base at : ℕ) (c : Const) (u : Ty) → whole ≡ left_bytes k before (drop k cs) → out ≡ start ++ before → base ≡ length start
      → k < length cs → c ≡ get_or cs k c → at ≡ offset_of p.layout p.sizes t k → field_step (out-Ty t) k ≡ u
      → new ≡ (out ++ replicate (base + at - length out) 0) ++ constant_bytes p c u
      → (more : List ℕ) × (new ≡ start ++ more) × (whole ≡ left_bytes (k + 1) more (drop (k + 1) cs))
  field_more whole out new start before cs k base at c u so_far o b lt ic place tu n =
      let more = padded (offset_of p.layout p.sizes t k) before ++ constant_bytes p c u in
      let next : left_bytes k before (drop k cs) ≡ left_bytes (k + 1) more (drop (k + 1) cs) =
      at_drop_more (left_bytes k before) cs k c lt
      ∙ ap (λ (d : Const). left_bytes (k + 1) (padded (offset_of p.layout p.sizes t k) before ++ constant_bytes p d (field_step (out-Ty t) k)) (drop (k + 1) cs)) (sym ic)
      ∙ ap (λ (v : Ty). left_bytes (k + 1) (padded (offset_of p.layout p.sizes t k) before ++ constant_bytes p c v) (drop (k + 1) cs)) tu in
      let filled : out ++ replicate (base + at - length out) 0 ≡ start ++ padded (offset_of p.layout p.sizes t k) before =
      ap (λ (xs : List ℕ). xs ++ replicate (base + at - length xs) 0) o
      ∙ padded_behind start before (base + at) at (ap (λ (n : ℕ). n + at) b)
      ∙ ap (λ (n : ℕ). start ++ padded n before) place in (
        more,
        n ∙ ap (λ (xs : List ℕ). xs ++ constant_bytes p c u) filled ∙ append_assoc start (padded (offset_of p.layout p.sizes t k) before) (constant_bytes p c u),
        so_far ∙ next,
      )

  -- no field is left
  pub fields_done : (whole out new start before : List ℕ) (cs : List Const) (k base : ℕ) → whole ≡ left_bytes k before (drop k cs) → out ≡ start ++ before → base ≡ length start
      → length cs ≤ k → new ≡ out ++ replicate (base + type_size p.layout p.sizes t - length out) 0 → new ≡ start ++ whole
  fields_done whole out new start before cs k base so_far o b end n =
      let last : whole ≡ padded (type_size p.layout p.sizes t) before = so_far ∙ ap (left_bytes k before) (drop_all k cs end) in
      n ∙ ap (λ (xs : List ℕ). xs ++ replicate (base + type_size p.layout p.sizes t - length xs) 0) o
      ∙ padded_behind start before (base + type_size p.layout p.sizes t) (type_size p.layout p.sizes t) (ap (λ (n : ℕ). n + type_size p.layout p.sizes t) b)
      ∙ ap (λ (xs : List ℕ). start ++ xs) (sym last)
