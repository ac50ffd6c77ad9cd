-- Globals stand apart from each other, each in its region.
use Rattle.std.proofs.Common.{◌≡◌, ℕ, zero, suc, ◌+◌, ◌-◌, ◌<◌, ◌≤◌, ◌⊎◌, inl, inr, Bool, true, false, IsTrue, List, [], ◌∷◌, ◌++◌, take, drop, length, get_or, replicate, refl, sym, ap, subst, ◌∙◌, arith, append_assoc, append-nil, rules}
use mathlib.Core.Path.{fun_ext}
use Rattle.std.specs.List.{list_all}
use Rattle.std.proofs.lemmas.Bool.{and_from, and_parts, cases_Bool, cases_lt, le-leb, lt-leb, le-ltb, lt-ltb}
use Rattle.std.proofs.lemmas.List.{get_or-replicate, length-replicate, take-append-drop}
use Rattle.std.proofs.lemmas.List.Sums.{fold-append}
use Rattle.std.proofs.Math.Seq.{drop-cons, take-add}
use Rattle.no_ir.specs.declared.constant.Const.{Const, the_lemmas}
use Rattle.no_ir.specs.declared.constant.Const.TheVariants as const
use Rattle.no_ir.specs.declared.types.Ty.{Ty}
use Rattle.no_ir.specs.declared.function.GlobalVar.{GlobalVar}
use Rattle.no_ir.specs.declared.function.Module.{Module}
use Rattle.no_layout.specs.Memory.{AreFormed, constants_start, globals_start, in_constants, within, written}
use Rattle.no_layout.specs.Sizes.{type_size}
use Rattle.no_layout.specs.Text.{is_formed}
use Rattle.no_layout.specs.declared.extent.Extent.{Extent}
use Rattle.no_layout.specs.declared.layout.Layout.{Layout}
use Rattle.no_layout.specs.declared.memory.Regions.{Regions}
use Rattle.no_semantics.specs.Accepted.{Accepted}
use Rattle.no_semantics.specs.First.{constant_bytes, first_of, program_of}
use Rattle.no_semantics.specs.Image.{address_behind, addresses_behind, constants_end_of, end_of, end_with, globals_start_of, regions_of, start_of}
use Rattle.no_semantics.specs.Sound.{table_holds, type_fits}
use Rattle.no_image.specs.Fits.{global_fits, globals_fit, has_image, image_fits, init_fits, inits_fit}
use Rattle.no_image.specs.Pieces.{AreInside, IsInRegion, over}
use Rattle.no_image.proofs.Lengths.{constant_length}
use Rattle.no_image.proofs.Placed.{ends_low, grows, own_kind}

above : (x y : ℕ) → x ≤ x + y
above x y = omega arith

through : (a b c : ℕ) → a ≤ b → b ≤ c → a ≤ c
through a b c h k = omega arith

-- ---- bytes over others

outside : (f : ℕ → ℕ) (at : ℕ) (bytes : List ℕ) (x : ℕ) → (x < at) ⊎ (at + length bytes ≤ x) → written f at bytes x ≡ f x
outside f at bytes x (inl h) = rw (lt-leb at x h) refl
outside f at bytes x (inr h) =
    let low : at ≤ x = omega arith in
    rw (le-leb at x low, le-ltb x (at + length bytes) h) refl

-- zeros over zeros change nothing
pub zeros_same : (f : ℕ → ℕ) (at n : ℕ) → ((x : ℕ) → at ≤ x → x < at + n → f x ≡ 0) → written f at (replicate n 0) ≡ f
zeros_same f at n none = fun_ext (λ x. same x)
  where
    long : length (replicate {A = ℕ} n 0) ≡ n
    long = length-replicate {A = ℕ} n 0

    same : (x : ℕ) → written f at (replicate n 0) x ≡ f x
    same x = elim (cases_lt x at) [
      | inl under ↦ outside f at (replicate n 0) x (inl under)
      | inr from ↦ elim (cases_lt x (at + n)) [
        | inl still ↦ (let l = long in rw (le-leb at x from, lt-ltb x (at + length (replicate {A = ℕ} n 0)) (omega (arith, l))) (get_or-replicate {A = ℕ} n (x - at) 0 0 (omega arith))) ∙ sym (none x from still)
        | inr past ↦ (let l = long in outside f at (replicate n 0) x (inr (omega (arith, l))))
      ]
    ]

-- ---- pieces

pub over_more : (xs : List (ℕ × List ℕ)) (at : ℕ) (bytes : List ℕ) (f : ℕ → ℕ) → over (xs ++ (at, bytes) ∷ []) f ≡ over xs (written f at bytes)
over_more [] at bytes f = refl
over_more (x ∷ xs) at bytes f = ap (λ (g : ℕ → ℕ). written g x.0 x.1) (over_more xs at bytes f)

module _ (r : Regions) where
  pub inside_more : (xs : List (ℕ × List ℕ)) (at : ℕ) (bytes : List ℕ) → AreInside r xs → IsInRegion r at (length bytes) → AreInside r (xs ++ (at, bytes) ∷ [])
  inside_more [] at bytes all here = (here, tt)
  inside_more (x ∷ xs) at bytes all here = (all.0, inside_more xs at bytes all.1 here)

  pub inside_at : (xs : List (ℕ × List ℕ)) (k : ℕ) (x : ℕ × List ℕ) → AreInside r xs → k < length xs → x ≡ get_or xs k x → IsInRegion r x.0 (length x.1)
  inside_at [] k x all lt is = absurd (omega arith)
  inside_at (y ∷ xs) zero x all lt is = subst (λ (z : ℕ × List ℕ). IsInRegion r z.0 (length z.1)) (sym is) all.0
  inside_at (y ∷ xs) (suc k) x all lt is = inside_at xs k x all.1 (omega arith) is

-- bytes of the constants, and of the globals, lie in one region
in_constants_is : (r : Regions) (at n : ℕ) → in_constants r at n ≡ true → IsInRegion r at n
in_constants_is r at n e = rw e refl

in_globals_is : (r : Regions) (at n : ℕ) → within (globals_start r) r.globals_end at n ≡ true → IsInRegion r at n
in_globals_is r at n e = elim (cases_Bool (in_constants r at n)) [
  | inl constants ↦ in_constants_is r at n constants
  | inr not_constants ↦ rw (not_constants, e) refl
]

-- ---- places of globals

module _ (a : Accepted) (formed : IsTrue (is_formed a.layout)) (holds : table_holds a.layout a.sizes 0 a.«module».types ≡ true) (fits : has_image a.«module» a.layout a.sizes ≡ true) where
  all : List GlobalVar
  all = a.«module».globals

  low_image : image_fits a.layout a.sizes a.«module».globals ≡ true
  low_image = (and_parts (image_fits a.layout a.sizes a.«module».globals) _ fits).0

  abbrev end_behind : Bool → List GlobalVar → ℕ
  end_behind kind before = end_of a.layout a.sizes kind (start_of a.layout a.sizes a.«module».globals kind) before

  abbrev address_of : List GlobalVar → GlobalVar → ℕ
  address_of before g = address_behind a.layout a.sizes a.«module».globals before g

  -- the end of the first globals is at most that of all
  end_front : (kind : Bool) (before more : List GlobalVar) → before ++ more ≡ a.«module».globals → end_behind kind before ≤ end_behind kind a.«module».globals
  end_front kind before more whole =
      let start = start_of a.layout a.sizes a.«module».globals kind in
      let parts : end_behind kind a.«module».globals ≡ end_of a.layout a.sizes kind (end_behind kind before) more =
      ap (end_of a.layout a.sizes kind start) (sym whole) ∙ fold-append (end_with a.layout a.sizes kind) start before more in
      let low = grows a.layout a.sizes kind (end_behind kind before) more in
      omega (arith, parts, low)

  start_low : (kind : Bool) (before : List GlobalVar) → start_of a.layout a.sizes a.«module».globals kind ≤ end_behind kind before
  start_low kind before = grows a.layout a.sizes kind (start_of a.layout a.sizes a.«module».globals kind) before

  -- constants end where the globals begin at the latest
  gap : end_behind true a.«module».globals ≤ start_of a.layout a.sizes a.«module».globals false
  gap = above (end_behind true a.«module».globals) _

  -- a global stands behind those of its kind, and ends where it has one byte more
  place_low : (before : List GlobalVar) (g : GlobalVar) → end_behind g.constant before ≤ address_of before g
  place_low before g = above (end_behind g.constant before) _

  place_end : (before : List GlobalVar) (g : GlobalVar) → end_behind g.constant (before ++ g ∷ []) ≡ address_of before g + type_size a.layout a.sizes g.ty
  place_end before g =
      fold-append (end_with a.layout a.sizes g.constant) (start_of a.layout a.sizes a.«module».globals g.constant) before (g ∷ [])
      ∙ rw (own_kind g.constant) refl

  end_grows : (kind : Bool) (before : List GlobalVar) (g : GlobalVar) → end_behind kind before ≤ end_behind kind (before ++ g ∷ [])
  end_grows kind before g =
      let parts = fold-append (end_with a.layout a.sizes kind) (start_of a.layout a.sizes a.«module».globals kind) before (g ∷ []) in
      let low = grows a.layout a.sizes kind (end_behind kind before) (g ∷ []) in
      omega (arith, parts, low)

  step_on : (before : List GlobalVar) (g : GlobalVar) (more : List GlobalVar) → before ++ g ∷ more ≡ a.«module».globals → (before ++ g ∷ []) ++ more ≡ a.«module».globals
  step_on before g more whole = append_assoc before (g ∷ []) more ∙ whole

  -- a byte of an earlier global is none of a later one
  apart : (b c : Bool) (before more : List GlobalVar) (g : GlobalVar) (n x : ℕ) → g.constant ≡ c → n ≡ type_size a.layout a.sizes g.ty → before ++ g ∷ more ≡ a.«module».globals
      → start_of a.layout a.sizes a.«module».globals b ≤ x → x < end_behind b before → (x < address_of before g) ⊎ (address_of before g + n ≤ x)
  apart true true before more g n x is size whole low high = (let at = subst (λ (k : Bool). end_behind k before ≤ address_of before g) is (place_low before g) in inl (omega (arith, at)))
  apart false false before more g n x is size whole low high = (let at = subst (λ (k : Bool). end_behind k before ≤ address_of before g) is (place_low before g) in inl (omega (arith, at)))
  apart true false before more g n x is size whole low high =
      let at = subst (λ (k : Bool). end_behind k before ≤ address_of before g) is (place_low before g) in
      let start = start_low false before in
      let front = end_front true before (g ∷ more) whole in
      let between = gap in
      inl (omega (arith, at, start, front, between))
  apart false true before more g n x is size whole low high =
      let end : end_behind true (before ++ g ∷ []) ≡ address_of before g + type_size a.layout a.sizes g.ty = subst (λ (k : Bool). end_behind k (before ++ g ∷ []) ≡ address_of before g + type_size a.layout a.sizes g.ty) is (place_end before g) in
      let front = end_front true (before ++ g ∷ []) more (step_on before g more whole) in
      let between = gap in
      inr (omega (arith, end, front, between, size))

  length_is : (g : GlobalVar) → global_fits a.layout a.sizes g ≡ true → init_fits a.«module» a.layout a.sizes g.init g.ty ≡ true
      → length (constant_bytes (program_of a) g.init g.ty) ≡ type_size a.layout a.sizes g.ty
  length_is g typed init = constant_length a formed holds g.init g.ty init (and_parts (type_fits a.layout a.sizes g.ty) _ typed).0

  pub later_zero : (before more : List GlobalVar) → before ++ more ≡ a.«module».globals → globals_fit a.layout a.sizes more ≡ true → inits_fit a.«module» a.layout a.sizes more ≡ true
      → (b : Bool) (x : ℕ) → start_of a.layout a.sizes a.«module».globals b ≤ x → x < end_behind b before
      → first_of (program_of a) (addresses_behind a.layout a.sizes a.«module».globals before more) more x ≡ 0
  later_zero before [] whole typed init b x low high = refl
  later_zero before (g ∷ more) whole typed init b x low high =
      let here = and_parts (global_fits a.layout a.sizes g) (globals_fit a.layout a.sizes more) typed in
      let begin = and_parts (init_fits a.«module» a.layout a.sizes g.init g.ty) (inits_fit a.«module» a.layout a.sizes more) init in
      let long = length_is g here.0 begin.0 in
      let further = end_grows b before g in
      outside (first_of (program_of a) (addresses_behind a.layout a.sizes a.«module».globals (before ++ g ∷ []) more) more) (address_of before g) (constant_bytes (program_of a) g.init g.ty) x
      (apart b g.constant before more g (length (constant_bytes (program_of a) g.init g.ty)) x refl long whole low high)
      ∙ later_zero (before ++ g ∷ []) more (step_on before g more whole) here.1 begin.1 b x low (omega (arith, further))

  -- ---- the globals one by one

  whole_at : (k : ℕ) → take k a.«module».globals ++ drop k a.«module».globals ≡ a.«module».globals
  whole_at k = take-append-drop k a.«module».globals

  fits_drop : (p : GlobalVar → Bool) (gs : List GlobalVar) (k : ℕ) → list_all p gs ≡ true → list_all p (drop k gs) ≡ true
  fits_drop p gs zero e = e
  fits_drop p [] (suc k) e = e
  fits_drop p (g ∷ gs) (suc k) e = fits_drop p gs k (and_parts (p g) (list_all p gs) e).1

  module _ (k : ℕ) (g : GlobalVar) (lt : k < length a.«module».globals) (is : g ≡ get_or a.«module».globals k g) where
    parts_at : drop k a.«module».globals ≡ g ∷ drop (k + 1) a.«module».globals
    parts_at = drop-cons a.«module».globals k g lt ∙ ap (λ (x : GlobalVar). x ∷ drop (suc k) a.«module».globals) (sym is) ∙ ap (λ (j : ℕ). g ∷ drop j a.«module».globals) (suc_is k)
      where
        suc_is : (k : ℕ) → suc k ≡ k + 1
        suc_is k = omega arith

    front_at : take (k + 1) a.«module».globals ≡ take k a.«module».globals ++ g ∷ []
    front_at = take-add k 1 a.«module».globals ∙ ap (λ (others : List GlobalVar). take k a.«module».globals ++ take 1 others) parts_at

    whole_here : take k a.«module».globals ++ g ∷ drop (k + 1) a.«module».globals ≡ a.«module».globals
    whole_here = ap (λ (others : List GlobalVar). take k a.«module».globals ++ others) (sym parts_at) ∙ whole_at k

    typed_at : globals_fit a.layout a.sizes (g ∷ drop (k + 1) a.«module».globals) ≡ true
    typed_at = subst (λ (others : List GlobalVar). globals_fit a.layout a.sizes others ≡ true) parts_at
        (fits_drop (global_fits a.layout a.sizes) a.«module».globals k (and_parts (globals_fit a.layout a.sizes a.«module».globals) _ low_image).0)

    inits_at : inits_fit a.«module» a.layout a.sizes (g ∷ drop (k + 1) a.«module».globals) ≡ true
    inits_at = subst (λ (others : List GlobalVar). inits_fit a.«module» a.layout a.sizes others ≡ true) parts_at
        (fits_drop (λ (h : GlobalVar). init_fits a.«module» a.layout a.sizes h.init h.ty) a.«module».globals k (and_parts (image_fits a.layout a.sizes a.«module».globals) _ fits).1)

    pub global_typed : type_fits a.layout a.sizes g.ty ≡ true
    global_typed = (and_parts (type_fits a.layout a.sizes g.ty) _ (and_parts (global_fits a.layout a.sizes g) _ typed_at).0).0

    pub global_init : init_fits a.«module» a.layout a.sizes g.init g.ty ≡ true
    global_init = (and_parts (init_fits a.«module» a.layout a.sizes g.init g.ty) (inits_fit a.«module» a.layout a.sizes (drop (k + 1) a.«module».globals)) inits_at).0

    abbrev pub first_from : ℕ → ℕ → ℕ
    first_from j = first_of (program_of a) (addresses_behind a.layout a.sizes a.«module».globals (take j a.«module».globals) (drop j a.«module».globals)) (drop j a.«module».globals)

    first_next : first_from k ≡ written (first_from (k + 1)) (address_of (take k a.«module».globals) g) (constant_bytes (program_of a) g.init g.ty)
    first_next =
        ap (λ (others : List GlobalVar). first_of (program_of a) (addresses_behind a.layout a.sizes a.«module».globals (take k a.«module».globals) others) others) parts_at
        ∙ ap (λ (before : List GlobalVar). written (first_of (program_of a) (addresses_behind a.layout a.sizes a.«module».globals before (drop (k + 1) a.«module».globals)) (drop (k + 1) a.«module».globals)) (address_of (take k a.«module».globals) g) (constant_bytes (program_of a) g.init g.ty)) (sym front_at)

    -- a global that is not of zeros is a piece
    pub piece_more : (whole : ℕ → ℕ) (pieces : List (ℕ × List ℕ)) (at : ℕ) (bytes : List ℕ) → whole ≡ over pieces (first_from k) → at ≡ address_of (take k a.«module».globals) g → bytes ≡ constant_bytes (program_of a) g.init g.ty
        → whole ≡ over (pieces ++ (at, bytes) ∷ []) (first_from (k + 1))
    piece_more whole pieces at bytes so_far place is_bytes =
        so_far ∙ ap (over pieces) first_next ∙ ap (λ (b : List ℕ). over pieces (written (first_from (k + 1)) (address_of (take k a.«module».globals) g) b)) (sym is_bytes)
        ∙ ap (λ (n : ℕ). over pieces (written (first_from (k + 1)) n bytes)) (sym place)
        ∙ sym (over_more pieces at bytes (first_from (k + 1)))

    -- one of zeros is none
    pub piece_none : (whole : ℕ → ℕ) (pieces : List (ℕ × List ℕ)) → whole ≡ over pieces (first_from k) → constant_bytes (program_of a) g.init g.ty ≡ replicate (type_size a.layout a.sizes g.ty) 0
        → whole ≡ over pieces (first_from (k + 1))
    piece_none whole pieces so_far zeros =
        so_far ∙ ap (over pieces) (first_next ∙ ap (written (first_from (k + 1)) (address_of (take k a.«module».globals) g)) zeros
        ∙ zeros_same (first_from (k + 1)) (address_of (take k a.«module».globals) g) (type_size a.layout a.sizes g.ty) clear)
      where
        clear : (x : ℕ) → address_of (take k a.«module».globals) g ≤ x → x < address_of (take k a.«module».globals) g + type_size a.layout a.sizes g.ty → first_from (k + 1) x ≡ 0
        clear x low high =
            let start = start_low g.constant (take k a.«module».globals) in
            let place = place_low (take k a.«module».globals) g in
            let end = place_end (take k a.«module».globals) g in
            let end' : end_behind g.constant (take (k + 1) a.«module».globals) ≡ address_of (take k a.«module».globals) g + type_size a.layout a.sizes g.ty = ap (end_behind g.constant) front_at ∙ end in
            later_zero (take (k + 1) a.«module».globals) (drop (k + 1) a.«module».globals) (whole_at (k + 1)) (and_parts (global_fits a.layout a.sizes g) _ typed_at).1 (and_parts (init_fits a.«module» a.layout a.sizes g.init g.ty) _ inits_at).1
            g.constant x (omega (arith, start, place)) (omega (arith, end'))

    region_of : (c : Bool) (at n : ℕ) → g.constant ≡ c → start_of a.layout a.sizes a.«module».globals c ≤ at → at + n ≤ end_behind c a.«module».globals
        → IsInRegion (regions_of a.layout a.sizes a.«module».globals) at n
    region_of true at n is low high = in_constants_is (regions_of a.layout a.sizes a.«module».globals) at n (and_from _ _ (le-leb constants_start at low) (le-leb (at + n) (constants_end_of a.layout a.sizes a.«module».globals) high))
    region_of false at n is low high = in_globals_is (regions_of a.layout a.sizes a.«module».globals) at n (and_from _ _ (le-leb (globals_start_of a.layout a.sizes a.«module».globals) at low) (le-leb (at + n) (end_behind false a.«module».globals) high))

    -- it lies in its region
    pub piece_inside : (at : ℕ) (bytes : List ℕ) → at ≡ address_of (take k a.«module».globals) g → bytes ≡ constant_bytes (program_of a) g.init g.ty
        → IsInRegion (regions_of a.layout a.sizes a.«module».globals) at (length bytes)
    piece_inside at bytes place is_bytes =
        let long : length bytes ≡ type_size a.layout a.sizes g.ty = ap length is_bytes ∙ length_is g (and_parts (global_fits a.layout a.sizes g) _ typed_at).0 global_init in
        let start = start_low g.constant (take k a.«module».globals) in
        let low = place_low (take k a.«module».globals) g in
        let end = place_end (take k a.«module».globals) g in
        let front = end_front g.constant (take k a.«module».globals ++ g ∷ []) (drop (k + 1) a.«module».globals) (step_on (take k a.«module».globals) g (drop (k + 1) a.«module».globals) whole_here) in
        region_of g.constant at (length bytes) refl (omega (arith, place, start, low)) (omega (arith, place, end, front, long))

-- ---- the addresses one by one

module _ (l : Layout) (sizes : List Extent) (all : List GlobalVar) where
  pub as_many_addresses : (before gs : List GlobalVar) → length (addresses_behind l sizes all before gs) ≡ length gs
  as_many_addresses before [] = refl
  as_many_addresses before (g ∷ gs) = ap suc (as_many_addresses (before ++ g ∷ []) gs)

  address_in : (before gs : List GlobalVar) (k : ℕ) (g : GlobalVar) (d : ℕ) → k < length gs → g ≡ get_or gs k g → get_or (addresses_behind l sizes all before gs) k d ≡ address_behind l sizes all (before ++ take k gs) g
  address_in before [] k g d lt is = absurd (omega arith)
  address_in before (x ∷ gs) zero g d lt is = ap (address_behind l sizes all before) (sym is) ∙ ap (λ (b : List GlobalVar). address_behind l sizes all b g) (sym (append-nil before))
  address_in before (x ∷ gs) (suc k) g d lt is =
      address_in (before ++ x ∷ []) gs k g d (omega arith) is ∙ ap (λ (b : List GlobalVar). address_behind l sizes all b g) (append_assoc before (x ∷ []) (take k gs))

  pub address_at : (addresses : List ℕ) (globals : List GlobalVar) (k : ℕ) (g : GlobalVar) (at d : ℕ) → globals ≡ all → addresses ≡ addresses_behind l sizes all [] globals → k < length globals → g ≡ get_or globals k g
      → at ≡ get_or addresses k d → at ≡ address_behind l sizes all (take k globals) g
  address_at addresses globals k g at d whole listed lt is read = read ∙ ap (λ (xs : List ℕ). get_or xs k d) listed ∙ address_in [] globals k g d lt is

-- ---- regions

pub regions_formed : (m : Module) (l : Layout) (sizes : List Extent) → has_image m l sizes ≡ true → AreFormed (regions_of l sizes m.globals)
regions_formed m l sizes fits = record {
  constants = grows l sizes true constants_start m.globals;
  globals = grows l sizes false (globals_start_of l sizes m.globals) m.globals;
  limit = ends_low l sizes m.globals (and_parts (image_fits l sizes m.globals) _ fits).0;
}

pub image_low : (m : Module) (l : Layout) (sizes : List Extent) → has_image m l sizes ≡ true → image_fits l sizes m.globals ≡ true
image_low m l sizes fits = (and_parts (image_fits l sizes m.globals) _ fits).0

-- ---- zeros

pub zero_bytes : (a : Accepted) (c : Const) (t : Ty) → c ≡ const.Zero → constant_bytes (program_of a) c t ≡ replicate (type_size a.layout a.sizes t) 0
zero_bytes a c t e =
    let zero_is : constant_bytes (program_of a) const.Zero t ≡ replicate (type_size a.layout a.sizes t) 0 = search (rules, the_lemmas) in
    ap (λ (d : Const). constant_bytes (program_of a) d t) e ∙ zero_is
