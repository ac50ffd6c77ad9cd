-- A constant has as many bytes as its type.
use Rattle.std.proofs.Common.{◌≡◌, ℕ, zero, suc, ◌+◌, ◌-◌, ◌*◌, ◌/◌, ◌%◌, ◌^◌, ◌<◌, ◌≤◌, inl, inr, Bool, true, false, ◌||◌, ◌==◌, IsTrue, List, [], ◌∷◌, ◌++◌, map, take, drop, length, get_or, replicate, refl, sym, ap, subst, ◌∙◌, arith, length-append, append-nil}
use Rattle.std.specs.List.{list_all}
use Rattle.std.proofs.lemmas.Bool.{and_parts, or_cases, eqb-true}
use Rattle.std.proofs.lemmas.List.{length-replicate, take-append-drop}
use Rattle.no_ir.specs.declared.types.Ty.{Ty, out-Ty}
use Rattle.no_ir.specs.declared.types.Ty.TheOpen.{Ty-F}
use Rattle.no_ir.specs.declared.constant.Const.{Const, roll-Const}
use Rattle.no_ir.specs.declared.constant.Const.TheOpen.{Const-F}
use Rattle.no_ir.specs.declared.constant.Const.TheFolds.{fold-roll-Const, ind-Const, map-Const}
use Rattle.no_layout.specs.Laws.{big_length, little_length}
use Rattle.no_layout.specs.Orders.{bytes_of}
use Rattle.no_layout.specs.Sizes.{Measure, fields_of, int_size, measure_of, offset_of, place_after, type_align, type_size, type_stride, whole}
use Rattle.no_layout.specs.Text.{is_formed}
use Rattle.no_semantics.specs.Accepted.{Accepted}
use Rattle.no_semantics.specs.First.{bytes_step, constant_bytes, element_step, elements_bytes, field_step, fields_bytes, number_bytes, padded, program_of}
use Rattle.no_semantics.specs.Indices.{resolved}
use Rattle.no_semantics.specs.Sound.{is_width, table_holds, type_fits}
use Rattle.no_semantics.specs.Values.{bytes_of_width, width_of, width_step}
use Rattle.no_semantics.proofs.Parts.{resolved_fits, resolved_size, rolled}
use Rattle.no_semantics.proofs.Scalars.{known}
use Rattle.no_image.specs.Fits.{byte_step, each_fits, elements_fit, fields_fit, init_fits, init_step, int_step, is_byte, is_int, is_pointer, pointer_step, text_fits}
use Rattle.no_image.proofs.Emitted.{end_more, field_fits, place_is, type_is}

above : (x y : ℕ) → x ≤ x + y
above x y = omega arith

length_padded : (n : ℕ) (xs : List ℕ) → length xs ≤ n → length (padded n xs) ≡ n
length_padded n xs h =
    let long = length-append xs (replicate (n - length xs) 0) in
    let gap = length-replicate {A = ℕ} (n - length xs) 0 in
    omega (arith, long, gap)

ordered_length : (big : Bool) (n v : ℕ) → length (bytes_of big n v) ≡ n
ordered_length true n v = big_length n v
ordered_length false n v = little_length n v

int_bytes : (w : ℕ) → is_width w ≡ true → bytes_of_width w ≡ int_size w
int_bytes w e = elim (known w e) [
  | inl is ↦ rw is refl
  | inr (inl is) ↦ rw is refl
  | inr (inr (inl is)) ↦ rw is refl
  | inr (inr (inr (inl is))) ↦ rw is refl
  | inr (inr (inr (inr is))) ↦ rw is refl
]

pointer_bytes : (w : ℕ) → (w == 32 || w == 64) ≡ true → bytes_of_width w ≡ w / 8
pointer_bytes w e = elim (or_cases (w == 32) (w == 64) e) [
  | inl is ↦ rw (eqb-true w 32 is) refl
  | inr is ↦ rw (eqb-true w 64 is) refl
]

more_is : (k : ℕ) → k + 1 ≡ suc k
more_is k = omega arith

-- a list behind k others
behind : (ts : List Ty) (k : ℕ) (u : Ty) (rest : List Ty) → drop k ts ≡ u ∷ rest → (k < length ts) × (u ≡ get_or ts k u) × (drop (suc k) ts ≡ rest)
behind [] zero u rest e = absurd cc
behind [] (suc k) u rest e = absurd cc
behind (t ∷ ts) zero u rest e = (omega arith, sym (head_is t u ts rest e), tail_is t u ts rest e)
  where
    head_is : (t u : Ty) (ts rest : List Ty) → t ∷ ts ≡ u ∷ rest → t ≡ u
    head_is t u ts rest e = cc

    tail_is : (t u : Ty) (ts rest : List Ty) → t ∷ ts ≡ u ∷ rest → ts ≡ rest
    tail_is t u ts rest e = cc
behind (t ∷ ts) (suc k) u rest e = let more = behind ts k u rest e in (omega (arith, more.0), more.1, more.2)

module _ (a : Accepted) (formed : IsTrue (is_formed a.layout)) (holds : table_holds a.layout a.sizes 0 a.«module».types ≡ true) where
  abbrev Long : Const → Type 0
  Long c = (t : Ty) → init_fits a.«module» a.layout a.sizes c t ≡ true → type_fits a.layout a.sizes t ≡ true → length (constant_bytes (program_of a) c t) ≡ type_size a.layout a.sizes t

  abbrev measures : Ty → Measure
  measures = measure_of a.layout a.sizes

  -- ---- numbers

  int_long : (t : Ty) (s : Ty-F Ty) (n : ℕ) → out-Ty t ≡ s → int_step s ≡ true → length (number_bytes (program_of a) t n) ≡ type_size a.layout a.sizes t
  int_long t (Ty-F.Int w) n shape e =
      let width : width_of a.layout t ≡ w = ap (width_step a.layout) shape in
      let size : type_size a.layout a.sizes t ≡ int_size w = ap (λ (m : Measure). m.size) (rolled a.layout a.sizes t (Ty-F.Int w) shape) in
      ordered_length a.layout.big (bytes_of_width (width_of a.layout t)) (n % 2 ^ width_of a.layout t) ∙ ap bytes_of_width width ∙ int_bytes w e ∙ sym size
  int_long t Ty-F.Void n shape e = absurd cc
  int_long t Ty-F.Ptr n shape e = absurd cc
  int_long t (Ty-F.Array count u) n shape e = absurd cc
  int_long t (Ty-F.Struct packed us) n shape e = absurd cc
  int_long t (Ty-F.Named k) n shape e = absurd cc

  pointer_long : (t : Ty) (s : Ty-F Ty) (n : ℕ) → out-Ty t ≡ s → pointer_step s ≡ true → length (number_bytes (program_of a) t n) ≡ type_size a.layout a.sizes t
  pointer_long t Ty-F.Ptr n shape e =
      let width : width_of a.layout t ≡ a.layout.pointer = ap (width_step a.layout) shape in
      let size : type_size a.layout a.sizes t ≡ a.layout.pointer / 8 = ap (λ (m : Measure). m.size) (rolled a.layout a.sizes t Ty-F.Ptr shape) in
      ordered_length a.layout.big (bytes_of_width (width_of a.layout t)) (n % 2 ^ width_of a.layout t) ∙ ap bytes_of_width width
      ∙ pointer_bytes a.layout.pointer (and_parts (a.layout.pointer == 32 || a.layout.pointer == 64) _ formed).0 ∙ sym size
  pointer_long t Ty-F.Void n shape e = absurd cc
  pointer_long t (Ty-F.Int w) n shape e = absurd cc
  pointer_long t (Ty-F.Array count u) n shape e = absurd cc
  pointer_long t (Ty-F.Struct packed us) n shape e = absurd cc
  pointer_long t (Ty-F.Named k) n shape e = absurd cc

  -- ---- texts

  bytes_long : (stride : ℕ) (text : List ℕ) → 1 ≤ stride → length (elements_bytes stride (map (λ (b : ℕ). b ∷ []) text)) ≡ length text * stride
  bytes_long stride [] h = omega arith
  bytes_long stride (b ∷ text) h =
      let first = length_padded stride (b ∷ []) h in
      let more = bytes_long stride text h in
      let both = length-append (padded stride (b ∷ [])) (elements_bytes stride (map (λ (c : ℕ). c ∷ []) text)) in
      omega (arith, first, more, both)

  byte_stride : (e : Ty) (s : Ty-F Ty) → out-Ty e ≡ s → byte_step s ≡ true → 1 ≤ type_stride a.layout a.sizes e
  byte_stride e (Ty-F.Int w) shape is =
      let one : type_size a.layout a.sizes e ≡ 1 = ap (λ (m : Measure). m.size) (rolled a.layout a.sizes e (Ty-F.Int w) shape) ∙ ap int_size (eqb-true w 8 is) in
      let far : type_size a.layout a.sizes e ≤ type_stride a.layout a.sizes e = above (type_size a.layout a.sizes e) _ in
      omega (arith, one, far)
  byte_stride e Ty-F.Void shape is = absurd cc
  byte_stride e Ty-F.Ptr shape is = absurd cc
  byte_stride e (Ty-F.Array count u) shape is = absurd cc
  byte_stride e (Ty-F.Struct packed us) shape is = absurd cc
  byte_stride e (Ty-F.Named k) shape is = absurd cc

  array_size : (u : Ty) (count : ℕ) (e : Ty) → out-Ty u ≡ Ty-F.Array count e → type_size a.layout a.sizes u ≡ count * type_stride a.layout a.sizes e
  array_size u count e shape = ap (λ (m : Measure). m.size) (rolled a.layout a.sizes u (Ty-F.Array count e) shape)

  text_long : (u : Ty) (s : Ty-F Ty) (text : List ℕ) → out-Ty u ≡ s → text_fits s text ≡ true
      → length (elements_bytes (type_stride a.layout a.sizes (element_step s)) (map (λ (b : ℕ). b ∷ []) text)) ≡ type_size a.layout a.sizes u
  text_long u (Ty-F.Array count e) text shape is =
      let parts = and_parts (is_byte e) (count == length text) is in
      bytes_long (type_stride a.layout a.sizes e) text (byte_stride e (out-Ty e) refl parts.0)
      ∙ ap (λ (n : ℕ). n * type_stride a.layout a.sizes e) (sym (eqb-true count (length text) parts.1)) ∙ sym (array_size u count e shape)
  text_long u Ty-F.Void text shape is = absurd cc
  text_long u Ty-F.Ptr text shape is = absurd cc
  text_long u (Ty-F.Int w) text shape is = absurd cc
  text_long u (Ty-F.Struct packed us) text shape is = absurd cc
  text_long u (Ty-F.Named k) text shape is = absurd cc

  module _ (S : Type 0) (v : S → Const) (h : (d : S) → Long (v d)) where
    abbrev fits_of : List S → List (Ty → Bool)
    fits_of ds = map (init_fits a.«module» a.layout a.sizes) (map v ds)

    abbrev bytes_all : List S → List (Ty → List ℕ)
    bytes_all ds = map (constant_bytes (program_of a)) (map v ds)

    -- ---- elements

    elements_long : (e : Ty) (ds : List S) → type_fits a.layout a.sizes e ≡ true → list_all (λ (fit : Ty → Bool). fit e) (fits_of ds) ≡ true
        → length (elements_bytes (type_stride a.layout a.sizes e) (map (λ (f : Ty → List ℕ). f e) (bytes_all ds))) ≡ length (fits_of ds) * type_stride a.layout a.sizes e
    elements_long e [] fits all = omega arith
    elements_long e (d ∷ ds) fits all =
        let parts = and_parts (init_fits a.«module» a.layout a.sizes (v d) e) (list_all (λ (fit : Ty → Bool). fit e) (fits_of ds)) all in
        let long : length (constant_bytes (program_of a) (v d) e) ≡ type_size a.layout a.sizes e = h d e parts.0 fits in
        let far : type_size a.layout a.sizes e ≤ type_stride a.layout a.sizes e = above (type_size a.layout a.sizes e) _ in
        let first = length_padded (type_stride a.layout a.sizes e) (constant_bytes (program_of a) (v d) e) (omega (arith, long, far)) in
        let more = elements_long e ds fits parts.1 in
        let both = length-append (padded (type_stride a.layout a.sizes e) (constant_bytes (program_of a) (v d) e)) (elements_bytes (type_stride a.layout a.sizes e) (map (λ (f : Ty → List ℕ). f e) (bytes_all ds))) in
        omega (arith, first, more, both)

    array_long : (u : Ty) (s : Ty-F Ty) (ds : List S) → out-Ty u ≡ s → type_fits a.layout a.sizes u ≡ true → elements_fit s (fits_of ds) ≡ true
        → length (elements_bytes (type_stride a.layout a.sizes (element_step s)) (map (λ (f : Ty → List ℕ). f (element_step s)) (bytes_all ds))) ≡ type_size a.layout a.sizes u
    array_long u (Ty-F.Array count e) ds shape fits is =
        let parts = and_parts (count == length (fits_of ds)) _ is in
        let inner : type_fits a.layout a.sizes e ≡ true = (and_parts (type_fits a.layout a.sizes e) _ (sym (ap (λ (m : Measure). m.fits) (rolled a.layout a.sizes u (Ty-F.Array count e) shape)) ∙ fits)).0 in
        elements_long e ds inner parts.1
        ∙ ap (λ (n : ℕ). n * type_stride a.layout a.sizes e) (sym (eqb-true count (length (fits_of ds)) parts.0)) ∙ sym (array_size u count e shape)
    array_long u Ty-F.Void ds shape fits is = absurd cc
    array_long u Ty-F.Ptr ds shape fits is = absurd cc
    array_long u (Ty-F.Int w) ds shape fits is = absurd cc
    array_long u (Ty-F.Struct packed us) ds shape fits is = absurd cc
    array_long u (Ty-F.Named k) ds shape fits is = absurd cc

    -- ---- fields

    module _ (u : Ty) (packed : Bool) (ts : List Ty) (shape : out-Ty u ≡ Ty-F.Struct packed ts) (fits : type_fits a.layout a.sizes u ≡ true) where
      abbrev end_at : ℕ → ℕ
      end_at k = (fields_of packed (map (measure_of a.layout a.sizes) (take k ts))).size

      whole_end : (b : Bool) (all : Measure) → all.size ≤ (whole b all).size
      whole_end true all = omega arith
      whole_end false all = above all.size _

      last_low : (k : ℕ) → drop k ts ≡ [] → end_at k ≤ type_size a.layout a.sizes u
      last_low k none =
          let front : take k ts ≡ ts = sym (append-nil (take k ts)) ∙ ap (λ (us : List Ty). take k ts ++ us) (sym none) ∙ take-append-drop k ts in
          let size : type_size a.layout a.sizes u ≡ (whole packed (fields_of packed (map (measure_of a.layout a.sizes) ts))).size = ap (λ (m : Measure). m.size) (rolled a.layout a.sizes u (Ty-F.Struct packed ts) shape) in
          let same : end_at k ≡ (fields_of packed (map (measure_of a.layout a.sizes) ts)).size = ap (λ (us : List Ty). (fields_of packed (map (measure_of a.layout a.sizes) us)).size) front in
          let low = whole_end packed (fields_of packed (map (measure_of a.layout a.sizes) ts)) in
          omega (arith, size, same, low)

      after_low : (b : Bool) (end align : ℕ) → end ≤ place_after b end align
      after_low true end align = omega arith
      after_low false end align = above end _

      left_long : (k : ℕ) (before : List ℕ) (ds : List S) (rest : List Ty) → drop k ts ≡ rest → each_fits rest (fits_of ds) ≡ true → length before ≡ end_at k
          → length (fields_bytes (program_of a) u k before (bytes_all ds)) ≡ type_size a.layout a.sizes u
      left_long k before [] [] is e long =
          let low = last_low k is in
          length_padded (type_size a.layout a.sizes u) before (omega (arith, long, low))
      left_long k before [] (t ∷ rest) is e long = absurd cc
      left_long k before (d ∷ ds) [] is e long = absurd cc
      left_long k before (d ∷ ds) (t ∷ rest) is e long =
          let at = behind ts k t rest is in
          let parts = and_parts (init_fits a.«module» a.layout a.sizes (v d) t) (each_fits rest (fits_of ds)) e in
          let here : field_step (out-Ty u) k ≡ t = type_is a.layout a.sizes u packed ts shape k t at.0 at.1 in
          let place : place_after packed (end_at k) (type_align a.layout a.sizes t) ≡ offset_of a.layout a.sizes u k = place_is a.layout a.sizes u packed ts shape k t at.0 at.1 (end_at k) refl in
          let low = after_low packed (end_at k) (type_align a.layout a.sizes t) in
          let first = length_padded (offset_of a.layout a.sizes u k) before (omega (arith, long, place, low)) in
          let field : length (constant_bytes (program_of a) (v d) (field_step (out-Ty u) k)) ≡ type_size a.layout a.sizes t =
          ap (λ (w : Ty). length (constant_bytes (program_of a) (v d) w)) here ∙ h d t parts.0 (field_fits a.layout a.sizes u packed ts shape k t at.0 at.1 fits) in
          let both = length-append (padded (offset_of a.layout a.sizes u k) before) (constant_bytes (program_of a) (v d) (field_step (out-Ty u) k)) in
          let end = end_more a.layout a.sizes u packed ts shape k t at.0 at.1 (end_at k) (length (padded (offset_of a.layout a.sizes u k) before ++ constant_bytes (program_of a) (v d) (field_step (out-Ty u) k))) refl (omega (arith, both, first, field, place)) in
          left_long (k + 1) (padded (offset_of a.layout a.sizes u k) before ++ constant_bytes (program_of a) (v d) (field_step (out-Ty u) k)) ds rest (ap (λ (j : ℕ). drop j ts) (more_is k) ∙ at.2) parts.1 end

    struct_long : (u : Ty) (s : Ty-F Ty) (ds : List S) → out-Ty u ≡ s → type_fits a.layout a.sizes u ≡ true → fields_fit s (fits_of ds) ≡ true
        → length (fields_bytes (program_of a) u 0 [] (bytes_all ds)) ≡ type_size a.layout a.sizes u
    struct_long u (Ty-F.Struct packed ts) ds shape fits is = left_long u packed ts shape fits 0 [] ds ts refl is refl
    struct_long u Ty-F.Void ds shape fits is = absurd cc
    struct_long u Ty-F.Ptr ds shape fits is = absurd cc
    struct_long u (Ty-F.Int w) ds shape fits is = absurd cc
    struct_long u (Ty-F.Array count e) ds shape fits is = absurd cc
    struct_long u (Ty-F.Named k) ds shape fits is = absurd cc

    -- ---- all constants

    layer : (y : Const-F S) (t : Ty) → init_step a.«module» a.layout a.sizes (map-Const Const (Ty → Bool) (init_fits a.«module» a.layout a.sizes) (map-Const S Const v y)) t ≡ true → type_fits a.layout a.sizes t ≡ true
        → length (bytes_step (program_of a) (map-Const Const (Ty → List ℕ) (constant_bytes (program_of a)) (map-Const S Const v y)) t) ≡ type_size a.layout a.sizes t
    layer Const-F.Zero t init fits = length-replicate {A = ℕ} (type_size a.layout a.sizes t) 0
    layer (Const-F.Int n) t init fits = int_long t (out-Ty t) n refl init
    layer (Const-F.Str text) t init fits = text_long (resolved a.«module».types t) (out-Ty (resolved a.«module».types t)) text refl init ∙ resolved_size a.layout a.sizes a.«module».types holds t fits
    layer (Const-F.Array ds) t init fits =
        array_long (resolved a.«module».types t) (out-Ty (resolved a.«module».types t)) ds refl (resolved_fits a.layout a.sizes a.«module».types holds t fits) init ∙ resolved_size a.layout a.sizes a.«module».types holds t fits
    layer (Const-F.Struct ds) t init fits =
        struct_long (resolved a.«module».types t) (out-Ty (resolved a.«module».types t)) ds refl (resolved_fits a.layout a.sizes a.«module».types holds t fits) init ∙ resolved_size a.layout a.sizes a.«module».types holds t fits
    layer (Const-F.Address place) t init fits = pointer_long t (out-Ty t) _ refl (and_parts (is_pointer t) _ init).0
    layer (Const-F.AddressAsInt place) t init fits = int_long t (out-Ty t) _ refl (and_parts (is_int t) _ init).0
    layer (Const-F.IntAsPtr n) t init fits = pointer_long t (out-Ty t) n refl init

    one_layer : (y : Const-F S) → Long (roll-Const (map-Const S Const v y))
    one_layer y t init fits =
        let x = map-Const S Const v y in
        ap (λ (f : Ty → List ℕ). length (f t)) (fold-roll-Const (Ty → List ℕ) (bytes_step (program_of a)) x)
        ∙ layer y t (ap (λ (f : Ty → Bool). f t) (sym (fold-roll-Const (Ty → Bool) (init_step a.«module» a.layout a.sizes) x)) ∙ init) fits

  pub constant_length : (c : Const) → Long c
  constant_length c = ind-Const Long (λ x y e. subst (λ (z : Const-F Const). Long (roll-Const z)) e (one_layer _ (λ d. d.0) (λ d. d.1) y)) c
