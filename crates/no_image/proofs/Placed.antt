-- Where the globals of an image that fits stand.
use Rattle.std.proofs.Common.{◌≡◌, ℕ, suc, ◌+◌, ◌-◌, ◌%◌, ◌<◌, ◌≤◌, inl, inr, Bool, true, false, nat_le, List, [], ◌∷◌, ◌++◌, take, drop, get_or, length, refl, sym, ap, ◌∙◌, arith, append_assoc, if◌then◌else◌}
use Rattle.std.specs.List.{list_all}
use Rattle.std.proofs.lemmas.Bool.{and_from, cases_Bool, leb-true}
use Rattle.std.proofs.Math.Seq.{drop-cons, take-add}
use Rattle.std.proofs.lemmas.List.{take-append-drop}
use Rattle.std.proofs.lemmas.List.Folds.{list_all_at}
use Rattle.std.proofs.lemmas.List.Sums.{fold_more, fold-append}
use Rattle.no_ir.specs.declared.function.GlobalVar.{GlobalVar}
use Rattle.no_layout.specs.declared.extent.Extent.{Extent}
use Rattle.no_layout.specs.declared.layout.Layout.{Layout}
use Rattle.no_layout.specs.Memory.{globals_limit, constants_start}
use Rattle.no_layout.specs.Sizes.{type_size}
pub use Rattle.no_room.proofs.Growing.{constants_below, first_below, fits_at, grows, grows_by, next_end, went_on}
use Rattle.no_sound.proofs.Facts.{both}
use Rattle.no_room.specs.Fits.{have_types}
use Rattle.no_semantics.specs.Sound.{align_fits, type_fits}
use Rattle.no_image.specs.Fits.{global_fits, globals_fit, image_fits}
use Rattle.no_semantics.specs.Image.{addresses_of, addresses_behind, address_behind, start_of, end_of, end_with, global_align, place_behind, same_kind, constants_end_of, globals_start_of, regions_of}

above : (x y : ℕ) → x ≤ x + y
above x y = omega arith

through : (a b c : ℕ) → a ≤ b → b ≤ c → a ≤ c
through a b c h k = omega arith

-- ---- what an image that fits keeps

pub ends_low : (l : Layout) (sizes : List Extent) (gs : List GlobalVar) → image_fits l sizes gs ≡ true → (regions_of l sizes gs).globals_end ≤ globals_limit
ends_low l sizes gs e = leb-true (regions_of l sizes gs).globals_end globals_limit (both (globals_fit l sizes gs) (nat_le (regions_of l sizes gs).globals_end globals_limit) e).1

-- the ends of the first k of each kind
pub constants_low : (l : Layout) (sizes : List Extent) (gs : List GlobalVar) (k : ℕ) → image_fits l sizes gs ≡ true
    → end_of l sizes true constants_start (take k gs) ≤ globals_limit
constants_low l sizes gs k e =
    through (end_of l sizes true constants_start (take k gs)) (constants_end_of l sizes gs) globals_limit
    (first_below l sizes true constants_start gs k)
    (through (constants_end_of l sizes gs) (regions_of l sizes gs).globals_end globals_limit (constants_below l sizes gs) (ends_low l sizes gs e))

pub writable_low : (l : Layout) (sizes : List Extent) (gs : List GlobalVar) (k : ℕ) → image_fits l sizes gs ≡ true
    → end_of l sizes false (globals_start_of l sizes gs) (take k gs) ≤ globals_limit
writable_low l sizes gs k e =
    through (end_of l sizes false (globals_start_of l sizes gs) (take k gs)) (regions_of l sizes gs).globals_end globals_limit
    (first_below l sizes false (globals_start_of l sizes gs) gs k) (ends_low l sizes gs e)

-- the end of a global's own kind among the first k
pub kind_end : (l : Layout) (sizes : List Extent) (gs before : List GlobalVar) (b : Bool) (c w : ℕ)
    → c ≡ end_of l sizes true constants_start before → w ≡ end_of l sizes false (globals_start_of l sizes gs) before
    → (if b then c else w) ≡ end_of l sizes b (start_of l sizes gs b) before
kind_end l sizes gs before true c w e f = e
kind_end l sizes gs before false c w e f = f

pub kind_low : (l : Layout) (sizes : List Extent) (gs : List GlobalVar) (b : Bool) (k : ℕ) → image_fits l sizes gs ≡ true
    → end_of l sizes b (start_of l sizes gs b) (take k gs) ≤ globals_limit
kind_low l sizes gs true k e = constants_low l sizes gs k e
kind_low l sizes gs false k e = writable_low l sizes gs k e

pub own_kind : (b : Bool) → same_kind b b ≡ true
own_kind true = refl
own_kind false = refl

-- a global's place is below its end
pub place_low : (l : Layout) (sizes : List Extent) (gs : List GlobalVar) (k : ℕ) (g : GlobalVar) → image_fits l sizes gs ≡ true
    → k < length gs → g ≡ get_or gs k g → place_behind l sizes (end_of l sizes g.constant (start_of l sizes gs g.constant) (take k gs)) g ≤ globals_limit
place_low l sizes gs k g e lt is =
    let start = start_of l sizes gs g.constant in
    let next : end_of l sizes g.constant start (take (k + 1) gs) ≡ end_with l sizes g.constant (end_of l sizes g.constant start (take k gs)) g =
    next_end l sizes g.constant start gs k g lt (sym is) in
    let step : place_behind l sizes (end_of l sizes g.constant start (take k gs)) g ≤ end_with l sizes g.constant (end_of l sizes g.constant start (take k gs)) g =
    rw (own_kind g.constant) (above (place_behind l sizes (end_of l sizes g.constant start (take k gs)) g) (type_size l sizes g.ty)) in
    let low : end_of l sizes g.constant start (take (k + 1) gs) ≤ globals_limit = kind_low l sizes gs g.constant (k + 1) e in
    omega (arith, next, step, low)

suc_is : (k : ℕ) → suc k ≡ k + 1
suc_is k = omega arith

-- one address more is listed
pub listed_next : (l : Layout) (sizes : List Extent) (gs : List GlobalVar) (k at : ℕ) (g : GlobalVar) (all : List ℕ)
    → k < length gs → g ≡ get_or gs k g → at ≡ address_behind l sizes gs (take k gs) g
    → addresses_of l sizes gs ≡ all ++ addresses_behind l sizes gs (take k gs) (drop k gs)
    → addresses_of l sizes gs ≡ (all ++ at ∷ []) ++ addresses_behind l sizes gs (take (k + 1) gs) (drop (k + 1) gs)
listed_next l sizes gs k at g all lt is here listed =
    let parts : drop k gs ≡ g ∷ drop (k + 1) gs = drop-cons gs k g lt ∙ ap (λ (x : GlobalVar). x ∷ drop (suc k) gs) (sym is) ∙ ap (λ (j : ℕ). g ∷ drop j gs) (suc_is k) in
    let front : take (k + 1) gs ≡ take k gs ++ g ∷ [] = take-add k 1 gs ∙ ap (λ (others : List GlobalVar). take k gs ++ take 1 others) parts in
    listed
    ∙ ap (λ (rest : List GlobalVar). all ++ addresses_behind l sizes gs (take k gs) rest) parts
    ∙ ap (λ (a : ℕ). all ++ a ∷ addresses_behind l sizes gs (take k gs ++ g ∷ []) (drop (k + 1) gs)) (sym here)
    ∙ ap (λ (before : List GlobalVar). all ++ at ∷ addresses_behind l sizes gs before (drop (k + 1) gs)) (sym front)
    ∙ sym (append_assoc all (at ∷ []) (addresses_behind l sizes gs (take (k + 1) gs) (drop (k + 1) gs)))

pub types_fit : (l : Layout) (sizes : List Extent) (gs : List GlobalVar) → image_fits l sizes gs ≡ true → have_types l sizes gs ≡ true
types_fit l sizes gs e = each gs (both (globals_fit l sizes gs) (nat_le (regions_of l sizes gs).globals_end globals_limit) e).0
  where
    each : (hs : List GlobalVar) → globals_fit l sizes hs ≡ true → have_types l sizes hs ≡ true
    each [] f = refl
    each (h ∷ hs) f =
        let parts = both (global_fits l sizes h) (globals_fit l sizes hs) f in
        and_from _ _ (both (type_fits l sizes h.ty) (align_fits h.align) parts.0).0 (each hs parts.1)

pub constants_end_low : (l : Layout) (sizes : List Extent) (gs : List GlobalVar) → image_fits l sizes gs ≡ true → constants_end_of l sizes gs ≤ globals_limit
constants_end_low l sizes gs e = through (constants_end_of l sizes gs) (regions_of l sizes gs).globals_end globals_limit (constants_below l sizes gs) (ends_low l sizes gs e)

pub start_low : (l : Layout) (sizes : List Extent) (gs : List GlobalVar) → image_fits l sizes gs ≡ true → globals_start_of l sizes gs ≤ globals_limit
start_low l sizes gs e = through (globals_start_of l sizes gs) (regions_of l sizes gs).globals_end globals_limit (grows l sizes false (globals_start_of l sizes gs) gs) (ends_low l sizes gs e)
