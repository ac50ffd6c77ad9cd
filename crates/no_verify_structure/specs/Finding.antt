-- The first place at which a rule is broken, in the order of functions, blocks and instructions.
use Rattle.std.specs.Prelude.{ℕ, ◌+◌, Bool, if◌then◌else◌, List, [], ◌∷◌, Option, Some, None}
use Rattle.no_ir.specs.declared.instruction.Instr.{Instr}
use Rattle.no_ir.specs.declared.function.Block.{Block}
use Rattle.no_ir.specs.declared.function.Function.{Function}
use Rattle.no_verify_types.specs.declared.place.FaultPlace.{FaultPlace}
use Rattle.no_verify_types.specs.Places.{found_or, fault_at, placed}

-- the first element that breaks a rule on an element and its number, by its number from k on
abbrev pub first_break : {A : Type 0} → (ℕ → A → Bool) → ℕ → List A → Option ℕ
first_break keeps k [] = None
first_break keeps k (x ∷ more) = if keeps k x then first_break keeps (k + 1) more else Some k

-- the first element in which there is something, by its number from k on, and what there is
abbrev pub first_at : {A B : Type 0} → (ℕ → A → Option B) → ℕ → List A → Option (ℕ × B)
first_at find k [] = None
first_at find k (x ∷ more) = found_or k (find k x) (first_at find (k + 1) more)

-- the first instruction of a block that breaks a rule
abbrev pub block_break : (Instr → Bool) → Block → Option ℕ
block_break keeps block = first_break (λ i. keeps) 0 block.instrs

-- block and place of the first instruction of a function that breaks a rule
abbrev pub first_instr : (Instr → Bool) → List Block → Option (ℕ × ℕ)
first_instr keeps blocks = first_at (λ b. block_break keeps) 0 blocks

-- what concerns a function as a whole is at its block 0, place 0
abbrev pub unless : Bool → Option (ℕ × ℕ) → Option (ℕ × ℕ)
unless keeps more = if keeps then more else Some (0, 0)

-- the first place among the functions of a module, by the number of each
abbrev pub first_place : (ℕ → Function → Option (ℕ × ℕ)) → List Function → Option FaultPlace
first_place find functions = placed (first_at find 0 functions)

-- what concerns the module as a whole is at 0, 0, 0
abbrev pub unless_whole : Bool → Option FaultPlace → Option FaultPlace
unless_whole keeps more = if keeps then more else Some (fault_at 0 0 0)
