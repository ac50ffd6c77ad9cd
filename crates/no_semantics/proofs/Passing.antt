-- Arguments beside parameters.
use Rattle.std.proofs.Common.{◌≡◌, ℕ, zero, suc, ◌<◌, Bool, false, List, [], ◌∷◌, length, drop, Option, None, refl, sym, ◌∙◌, arith}
use Rattle.no_ir.specs.declared.types.Ty.{Ty}
use Rattle.no_ir.specs.declared.instruction.Operand.{Operand}
use Rattle.no_semantics.specs.Calls.{are_passed, passed}
use Rattle.no_semantics.specs.Registers.{Registers}

-- an argument is left, and no parameter
at_end : (args : List (Ty × Operand)) (i : ℕ) → i < length args → are_passed (drop i args) [] ≡ false
at_end [] i below = absurd (omega arith)
at_end (a ∷ args) zero below = refl
at_end (a ∷ args) (suc i) below = at_end args i (omega arith)

pub none_left : (args : List (Ty × Operand)) (i : ℕ) (rest : List (ℕ × Ty)) (total : Bool) → i < length args → length rest < 1 → are_passed (drop i args) rest ≡ total → false ≡ total
none_left args i [] total below short is = sym (at_end args i below) ∙ is
none_left args i (q ∷ rest) total below short is = absurd (omega arith)

-- a parameter is left, and no argument
no_argument : (params : List (ℕ × Ty)) (i : ℕ) (registers : Registers) → i < length params → passed (drop i params) [] registers ≡ None
no_argument [] i registers below = absurd (omega arith)
no_argument (q ∷ params) zero registers below = refl
no_argument (q ∷ params) (suc i) registers below = no_argument params i registers (omega arith)

pub too_few : (params : List (ℕ × Ty)) (i : ℕ) (rest : List ℕ) (registers : Registers) (total : Option Registers) → i < length params → length rest < 1 → passed (drop i params) rest registers ≡ total → total ≡ None
too_few params i [] registers total below short is = sym is ∙ no_argument params i registers below
too_few params i (n ∷ rest) registers total below short is = absurd (omega arith)
