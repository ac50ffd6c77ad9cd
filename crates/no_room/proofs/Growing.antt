-- The ends of globals do not fall as more of them are placed.
use Rattle.std.proofs.Common.{◌≡◌, ℕ, suc, ◌+◌, ◌-◌, ◌%◌, ◌<◌, ◌≤◌, inl, inr, Bool, true, false, nat_le, List, [], ◌∷◌, ◌++◌, take, drop, get_or, length, refl, sym, ap, ◌∙◌, arith, append_assoc, if◌then◌else◌}
use Rattle.std.specs.List.{list_all}
use Rattle.std.proofs.lemmas.Bool.{cases_Bool, lt-leb, leb-true}
use Rattle.std.proofs.Math.Seq.{drop-cons, take-add}
use Rattle.std.proofs.lemmas.List.{take-append-drop}
use Rattle.std.proofs.lemmas.List.Folds.{list_all_at}
use Rattle.std.proofs.lemmas.List.Sums.{fold_more, fold-append}
use Rattle.no_ir.specs.declared.function.GlobalVar.{GlobalVar}
use Rattle.no_layout.specs.declared.extent.Extent.{Extent}
use Rattle.no_layout.specs.declared.layout.Layout.{Layout}
use Rattle.no_layout.specs.Memory.{globals_limit, constants_start}
use Rattle.no_layout.specs.Sizes.{type_size}
use Rattle.no_room.specs.Ends.{addresses_of, addresses_behind, address_behind, start_of, end_of, end_with, global_align, place_behind, same_kind, constants_end_of, globals_start_of, regions_of}

above : (x y : ℕ) → x ≤ x + y
above x y = omega arith

far : (x y z : ℕ) → x ≤ x + y + z
far x y z = omega arith

same : (x : ℕ) → x ≤ x
same x = omega arith

through : (a b c : ℕ) → a ≤ b → b ≤ c → a ≤ c
through a b c h k = omega arith

-- one global more does not lower the end
pub grows_by : (l : Layout) (sizes : List Extent) (kind : Bool) (end : ℕ) (g : GlobalVar) → end ≤ end_with l sizes kind end g
grows_by l sizes kind end g = elim (cases_Bool (same_kind kind g.constant)) [
  | inl is ↦ rw is (far end ((global_align l sizes g - end % global_align l sizes g) % global_align l sizes g) (type_size l sizes g.ty))
  | inr other ↦ rw other (same end)
]

-- nor do many
pub grows : (l : Layout) (sizes : List Extent) (kind : Bool) (end : ℕ) (gs : List GlobalVar) → end ≤ end_of l sizes kind end gs
grows l sizes kind end [] = same end
grows l sizes kind end (g ∷ gs) = through end (end_with l sizes kind end g) (end_of l sizes kind (end_with l sizes kind end g) gs) (grows_by l sizes kind end g) (grows l sizes kind (end_with l sizes kind end g) gs)

-- the end of the first k is at most that of all
pub first_below : (l : Layout) (sizes : List Extent) (kind : Bool) (start : ℕ) (gs : List GlobalVar) (k : ℕ)
    → end_of l sizes kind start (take k gs) ≤ end_of l sizes kind start gs
first_below l sizes kind start gs k =
    let whole : end_of l sizes kind start gs ≡ end_of l sizes kind (end_of l sizes kind start (take k gs)) (drop k gs) =
    ap (end_of l sizes kind start) (sym (take-append-drop k gs)) ∙ fold-append (end_with l sizes kind) start (take k gs) (drop k gs) in
    rw whole (grows l sizes kind (end_of l sizes kind start (take k gs)) (drop k gs))

-- the end of one global more
pub next_end : (l : Layout) (sizes : List Extent) (kind : Bool) (start : ℕ) (gs : List GlobalVar) (k : ℕ) (g : GlobalVar)
    → k < length gs → get_or gs k g ≡ g → end_of l sizes kind start (take (k + 1) gs) ≡ end_with l sizes kind (end_of l sizes kind start (take k gs)) g
next_end l sizes kind start gs k g lt is = fold_more (end_with l sizes kind) start gs k g lt ∙ ap (end_with l sizes kind (end_of l sizes kind start (take k gs))) is

-- a test that holds of all holds of each
pub fits_at : (p : GlobalVar → Bool) (gs : List GlobalVar) (k : ℕ) (g : GlobalVar) → list_all p gs ≡ true → k < length gs → g ≡ get_or gs k g → p g ≡ true
fits_at p gs k g all lt is = elim (cases_Bool (p g)) [
  | inl holds ↦ holds
  | inr fails ↦ (let some : list_all p gs ≡ false = list_all_at p gs k g lt (ap p (sym is) ∙ fails) in absurd cc)
]

-- where one of the ends is past the limit, so is the last
pub passed : (l : Layout) (sizes : List Extent) (kind : Bool) (start : ℕ) (gs : List GlobalVar) (k : ℕ) (g : GlobalVar) (before end : ℕ)
    → k < length gs → g ≡ get_or gs k g → before ≡ end_of l sizes kind start (take k gs) → end ≡ end_with l sizes kind before g → globals_limit < end
    → globals_limit < end_of l sizes kind start gs
passed l sizes kind start gs k g before end lt is was now over =
    let next : end ≡ end_of l sizes kind start (take (k + 1) gs) = now ∙ ap (λ (e : ℕ). end_with l sizes kind e g) was ∙ sym (next_end l sizes kind start gs k g lt (sym is)) in
    let low : end_of l sizes kind start (take (k + 1) gs) ≤ end_of l sizes kind start gs = first_below l sizes kind start gs (k + 1) in
    omega (arith, next, low, over)

pub went_on : (l : Layout) (sizes : List Extent) (kind : Bool) (start : ℕ) (gs : List GlobalVar) (k : ℕ) (g : GlobalVar) (before end : ℕ)
    → k < length gs → g ≡ get_or gs k g → before ≡ end_of l sizes kind start (take k gs) → end ≡ end_with l sizes kind before g
    → end ≡ end_of l sizes kind start (take (k + 1) gs)
went_on l sizes kind start gs k g before end lt is was now =
    now ∙ ap (λ (e : ℕ). end_with l sizes kind e g) was ∙ sym (next_end l sizes kind start gs k g lt (sym is))

-- constants end where the globals begin at the latest
pub constants_below : (l : Layout) (sizes : List Extent) (gs : List GlobalVar) → constants_end_of l sizes gs ≤ (regions_of l sizes gs).globals_end
constants_below l sizes gs =
    let begin : constants_end_of l sizes gs ≤ globals_start_of l sizes gs = above (constants_end_of l sizes gs) ((65536 - constants_end_of l sizes gs % 65536) % 65536) in
    through (constants_end_of l sizes gs) (globals_start_of l sizes gs) (regions_of l sizes gs).globals_end begin (grows l sizes false (globals_start_of l sizes gs) gs)

pub late : (l : Layout) (sizes : List Extent) (gs : List GlobalVar) → globals_limit < constants_end_of l sizes gs → nat_le (regions_of l sizes gs).globals_end globals_limit ≡ false
late l sizes gs over = lt-leb (regions_of l sizes gs).globals_end globals_limit (longer globals_limit (constants_end_of l sizes gs) (regions_of l sizes gs).globals_end over (constants_below l sizes gs))
  where
    longer : (a b c : ℕ) → a < b → b ≤ c → a < c
    longer a b c h k = omega arith
