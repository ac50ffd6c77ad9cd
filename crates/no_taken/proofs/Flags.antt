-- Flags that are set by number, one list of numbers after another.
use Rattle.std.proofs.Common.{◌≡◌, ◌≢◌, ◌∙◌, sym, ap, refl, ℕ, suc, ◌+◌, ◌<◌, ◌≤◌, Bool, true, false, ◌||◌, nat_eq, inl, inr, List, [], ◌∷◌, ◌++◌, length, map, drop, get_or, replicate, slice_set, arith, drop-cons, drop_of_length-le, get_or-set_other, get_or-set_same, length-set, subst}
use Rattle.std.proofs.Math.Bool.{or-false, or_assoc}
use Rattle.std.proofs.lemmas.Bool.{cases_Bool, eqb-true}
use Rattle.std.proofs.lemmas.List.{get_or-replicate, length-replicate}
use Rattle.std.specs.List.{concat, flat_map, list_any}
use Rattle.no_ir.specs.declared.instruction.Operand.{Operand}
use Rattle.no_ir.specs.declared.function.Function.{Function}
use Rattle.no_ir.specs.declared.function.GlobalVar.{GlobalVar}
use Rattle.no_ir.specs.declared.function.Module.{Module}
use Rattle.no_semantics.specs.Taken.{function_taken, module_taken}
use Rattle.no_verify_types.specs.Named.{global_names, operand_names}
use Rattle.no_taken.specs.Marked.{AreTaken, marked}

pub marked_append : (a b : List ℕ) (flags : List Bool) → marked (a ++ b) flags ≡ marked b (marked a flags)
marked_append [] b flags = refl
marked_append (k ∷ a) b flags = marked_append a b (slice_set flags k true)

-- the flags of one operand more are set
pub marked_more : (flags new total : List Bool) (left more : List Operand) (o : Operand) → new ≡ marked (operand_names o) flags → left ≡ o ∷ more
    → total ≡ marked (flat_map operand_names left) flags → total ≡ marked (flat_map operand_names more) new
marked_more flags new total left more o done is so_far =
    so_far
    ∙ ap (λ (os : List Operand). marked (flat_map operand_names os) flags) is
    ∙ marked_append (operand_names o) (flat_map operand_names more) flags
    ∙ ap (marked (flat_map operand_names more)) (sym done)

-- ---- the numbers of the items of a list

module _ {A : Type 0} (f : A → List ℕ) where
  concat_flat : (xs : List A) → concat (map f xs) ≡ flat_map f xs
  concat_flat [] = refl
  concat_flat (x ∷ xs) = ap (λ (l : List ℕ). f x ++ l) (concat_flat xs)

  -- nothing is left to set
  pub marked_all : (xs : List A) (i : ℕ) (flags old : List Bool) → length xs ≤ i → marked (flat_map f (drop i xs)) flags ≡ marked (flat_map f xs) old → flags ≡ marked (concat (map f xs)) old
  marked_all xs i flags old all so_far =
      ap (λ (l : List A). marked (flat_map f l) flags) (sym (drop_of_length-le xs all)) ∙ so_far ∙ ap (λ (l : List ℕ). marked l old) (sym (concat_flat xs))

  -- the flags of the next item are set
  pub marked_on : (xs : List A) (i : ℕ) (x : A) (flags new total : List Bool) → i < length xs → x ≡ get_or xs i x → marked (flat_map f (drop i xs)) flags ≡ total → new ≡ marked (f x) flags
      → marked (flat_map f (drop (i + 1) xs)) new ≡ total
  marked_on xs i x flags new total below is so_far done =
      let next : suc i ≡ i + 1 = omega arith in
      let parts : drop i xs ≡ x ∷ drop (i + 1) xs = drop-cons xs i x below ∙ ap (λ (y : A). y ∷ drop (suc i) xs) (sym is) ∙ ap (λ (k : ℕ). x ∷ drop k xs) next in
      ap (λ (g : List Bool). marked (flat_map f (drop (i + 1) xs)) g) done
      ∙ sym (marked_append (f x) (flat_map f (drop (i + 1) xs)) flags)
      ∙ ap (λ (l : List A). marked (flat_map f l) flags) (sym parts)
      ∙ so_far

-- ---- which flags are set

set_at : (flags : List Bool) (j k : ℕ) → k < length flags → get_or (slice_set flags j true) k false ≡ (get_or flags k false || nat_eq k j)
set_at flags j k below = elim (cases_Bool (nat_eq k j)) [
  | inl same ↦
      let is : k ≡ j = eqb-true k j same in
      let within : j < length flags = subst (λ (n : ℕ). n < length flags) is below in
      ap (λ (n : ℕ). get_or (slice_set flags j true) n false) is ∙ get_or-set_same flags j true false within
      ∙ sym (either (get_or flags k false)) ∙ ap (λ (b : Bool). get_or flags k false || b) (sym same)
  | inr other ↦
      let apart : k ≢ j = λ e. differ (sym (ap (λ (n : ℕ). nat_eq n j) e) ∙ other) in
      get_or-set_other flags j k true false apart ∙ sym (or-false (get_or flags k false)) ∙ ap (λ (b : Bool). get_or flags k false || b) (sym other)
]
  where
    either : (b : Bool) → (b || true) ≡ true
    either true = refl
    either false = refl

    differ : nat_eq j j ≡ false → ⊥
    differ e = absurd (grind (arith, e))

pub marked_at : (ks : List ℕ) (flags : List Bool) (k : ℕ) → k < length flags → get_or (marked ks flags) k false ≡ (get_or flags k false || list_any (nat_eq k) ks)
marked_at [] flags k below = sym (or-false (get_or flags k false))
marked_at (j ∷ ks) flags k below =
    let within : k < length (slice_set flags j true) = subst (λ (n : ℕ). k < n) (sym (length-set flags j true)) below in
    marked_at ks (slice_set flags j true) k within
    ∙ ap (λ (b : Bool). b || list_any (nat_eq k) ks) (set_at flags j k below)
    ∙ or_assoc (get_or flags k false) (nat_eq k j) (list_any (nat_eq k) ks)

-- those of all globals, and then those of all functions
pub all_marked : (m : Module) (n : ℕ) (globals : List GlobalVar) (functions : List Function) (unset between flags : List Bool) → n ≡ length m.functions → unset ≡ replicate n false
    → globals ≡ m.globals → between ≡ marked (flat_map global_names globals) unset → functions ≡ m.functions → flags ≡ marked (flat_map function_taken functions) between → AreTaken m flags
all_marked m n globals functions unset between flags count none same first those second = λ k below.
    let within : k < n = subst (λ (j : ℕ). k < j) (sym count) below in
    let there : k < length (replicate n false) = subst (λ (j : ℕ). k < j) (sym (length-replicate n false)) within in
    let one : between ≡ marked (flat_map global_names m.globals) (replicate n false) =
    first ∙ ap (λ (g : List GlobalVar). marked (flat_map global_names g) unset) same ∙ ap (λ (f : List Bool). marked (flat_map global_names m.globals) f) none in
    let two : flags ≡ marked (flat_map function_taken m.functions) (marked (flat_map global_names m.globals) (replicate n false)) =
    second ∙ ap (λ (g : List Function). marked (flat_map function_taken g) between) those ∙ ap (λ (f : List Bool). marked (flat_map function_taken m.functions) f) one in
    ap (λ (f : List Bool). get_or f k false) (two ∙ sym (marked_append (flat_map global_names m.globals) (flat_map function_taken m.functions) (replicate n false)))
    ∙ marked_at (module_taken m) (replicate n false) k there
    ∙ ap (λ (b : Bool). b || list_any (nat_eq k) (module_taken m)) (get_or-replicate n k false false within)
