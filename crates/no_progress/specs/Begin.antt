-- How a run of a program may begin.
use Rattle.std.specs.Prelude.{◌≡◌, ℕ, ◌^◌, ◌<◌, false, List, [], ◌∷◌, Some}
use Rattle.no_ir.specs.declared.types.Ty.{Ty}
use Rattle.no_ir.specs.declared.function.Function.{Function}
use Rattle.no_module.specs.Functions.{is_declared}
use Rattle.no_semantics.specs.Starts.{main_number}
use Rattle.no_semantics.specs.States.{function_at}
use Rattle.no_semantics.specs.Values.{Program, width_of}

-- the first function of the name main is defined
pub record HasMain (p : Program) : Type 0 where
  pub number : ℕ
  pub is : main_number p ≡ Some number
  pub function : Function
  pub function_is : function_at p number ≡ Some function
  pub is_defined : is_declared function ≡ false

-- as many arguments as parameters, each a number of the parameter's width
abbrev pub ArgumentsFit : Program → List ℕ → List (ℕ × Ty) → Type 0
ArgumentsFit p [] [] = Unit {0}
ArgumentsFit p (n ∷ ns) (q ∷ params) = (n < 2 ^ width_of p.layout q.1) × ArgumentsFit p ns params
ArgumentsFit p _ _ = ⊥

-- a defined function with arguments for its parameters
pub record IsEntry (p : Program) (k : ℕ) (arguments : List ℕ) : Type 0 where
  pub function : Function
  pub function_is : function_at p k ≡ Some function
  pub is_defined : is_declared function ≡ false
  pub fit : ArgumentsFit p arguments function.params
