-- The first that is found in a list.
use Rattle.std.proofs.Common.{◌≡◌, ◌∙◌, sym, ap, ℕ, ◌+◌, ◌<◌, true, List, length, drop, get_or, Option, Some, None}
use Rattle.std.proofs.lemmas.List.{drop_more}
use Rattle.no_ir.specs.declared.function.Block.{Block}
use Rattle.no_ir.specs.declared.function.Function.{Function}
use Rattle.no_ir.specs.declared.function.Module.{Module}
use Rattle.no_ir.specs.declared.function.Role.{Role}
use Rattle.no_ir.specs.declared.instruction.Instr.{Instr}
use Rattle.no_module.specs.declared.scalar.Scalar.{Scalar}
use Rattle.no_verify_types.specs.Places.{first_found, found_or, function_fault, typed, wrong_among}
use Rattle.no_verify_types.specs.Registers.{register_types}
use Rattle.no_verify_types.specs.Typing.{head_typed, op_typed}

module _ {A B : Type 0} (find : A → Option B) where
  one_step : (xs : List A) (k : ℕ) (x : A) (o : Option B) → k < length xs → x ≡ get_or xs k x → o ≡ find x → first_found find k (drop k xs) ≡ found_or k o (first_found find (k + 1) (drop (k + 1) xs))
  one_step xs k x o below is found =
      ap (first_found find k) (drop_more xs k x below) ∙ ap (λ (p : Option B). found_or k p (first_found find (k + 1) (drop (k + 1) xs))) (ap find (sym is) ∙ sym found)

  pub found_here : (xs : List A) (k : ℕ) (x : A) (o : Option B) (b : B) (total : Option (ℕ × B)) → k < length xs → x ≡ get_or xs k x → o ≡ find x → o ≡ Some b → total ≡ first_found find k (drop k xs) → Some (k, b) ≡ total
  found_here xs k x o b total below is found some so_far =
      let at : first_found find k (drop k xs) ≡ found_or k o (first_found find (k + 1) (drop (k + 1) xs)) = one_step xs k x o below is found in
      sym (so_far ∙ at ∙ ap (λ (p : Option B). found_or k p (first_found find (k + 1) (drop (k + 1) xs))) some)

  pub not_here : (xs : List A) (k : ℕ) (x : A) (o : Option B) (total : Option (ℕ × B)) → k < length xs → x ≡ get_or xs k x → o ≡ find x → o ≡ None → total ≡ first_found find k (drop k xs) → total ≡ first_found find (k + 1) (drop (k + 1) xs)
  not_here xs k x o total below is found none so_far =
      let at : first_found find k (drop k xs) ≡ found_or k o (first_found find (k + 1) (drop (k + 1) xs)) = one_step xs k x o below is found in
      so_far ∙ at ∙ ap (λ (p : Option B). found_or k p (first_found find (k + 1) (drop (k + 1) xs))) none

-- in a function whose result and parameters are typed, the first wrong instruction decides
pub function_found : (m : Module) (role : Role) (f : Function) (types : List (Option Scalar)) (blocks : List Block) (o : Option (ℕ × ℕ)) → head_typed f ≡ true → types ≡ register_types f → blocks ≡ f.blocks
    → o ≡ wrong_among (λ (i : Instr). op_typed m role f.result types i.op) blocks → o ≡ function_fault (typed m role) f
function_found m role f types blocks o head is same found = rw head (
    found
    ∙ ap (λ (ts : List (Option Scalar)). wrong_among (λ (i : Instr). op_typed m role f.result ts i.op) blocks) is
    ∙ ap (λ (bs : List Block). wrong_among (λ (i : Instr). op_typed m role f.result (register_types f) i.op) bs) same)
