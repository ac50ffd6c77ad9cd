-- The first place of a module at which a rule is broken: among globals, and then among functions, their blocks and their instructions, in order.
use Rattle.std.specs.Prelude.{ℕ, ◌+◌, Bool, not, if◌then◌else◌, List, [], ◌∷◌, Option, Some, None}
use Rattle.std.specs.List.{list_all, position_from}
use Rattle.no_ir.specs.declared.instruction.Instr.{Instr}
use Rattle.no_ir.specs.declared.function.Block.{Block}
use Rattle.no_ir.specs.declared.function.Function.{Function}
use Rattle.no_ir.specs.declared.function.GlobalVar.{GlobalVar}
use Rattle.no_ir.specs.declared.function.Module.{Module}
use Rattle.no_ir.specs.declared.function.Role.{Role}
use Rattle.no_verify_types.specs.declared.place.FaultPlace.{FaultPlace}
use Rattle.no_verify_types.specs.Constants.{global_typed}
use Rattle.no_verify_types.specs.Named.{first_unknown, is_named, module_names}
use Rattle.no_verify_types.specs.Registers.{register_types}
use Rattle.no_verify_types.specs.Typing.{head_typed, op_typed}

-- which globals, which functions' results and parameters, and which instructions of a function keep a rule
pub record Rule : Type 0 where
  pub keeps_global : GlobalVar → Bool
  pub keeps_head : Function → Bool
  pub keeps_instr : Function → Instr → Bool

-- ---- the first in a list

-- what was found at number k, or else what is found behind it
abbrev pub found_or : {B : Type 0} → ℕ → Option B → Option (ℕ × B) → Option (ℕ × B)
found_or k None other = other
found_or k (Some b) other = Some (k, b)

-- the first element for which there is something, by its number from k on, and what there is
abbrev pub first_found : {A B : Type 0} → (A → Option B) → ℕ → List A → Option (ℕ × B)
first_found find k [] = None
first_found find k (x ∷ more) = found_or k (find x) (first_found find (k + 1) more)

-- ---- the first in a module

-- the first instruction of a block that does not keep a rule
abbrev pub wrong_in : (Instr → Bool) → Block → Option ℕ
wrong_in keeps b = position_from (λ i. not (keeps i)) 0 b.instrs

-- the first one of a function's blocks, by block and place
abbrev pub wrong_among : (Instr → Bool) → List Block → Option (ℕ × ℕ)
wrong_among keeps blocks = first_found (wrong_in keeps) 0 blocks

-- block and place in a function; its result and parameters are at 0, 0
abbrev pub function_fault : Rule → Function → Option (ℕ × ℕ)
function_fault rule f = if rule.keeps_head f then wrong_among (rule.keeps_instr f) f.blocks else Some (0, 0)

-- the place of an instruction, by the numbers of its function, its block and itself
abbrev pub fault_at : ℕ → ℕ → ℕ → FaultPlace
fault_at function block place = record { function = function; block = block; place = place }

-- the number of a function with block and place in it, as a place of the module
abbrev pub placed : Option (ℕ × (ℕ × ℕ)) → Option FaultPlace
placed None = None
placed (Some p) = Some (fault_at p.0 p.1.0 p.1.1)

-- globals are at 0, 0, 0
abbrev pub first_fault : Rule → Module → Option FaultPlace
first_fault rule m = if list_all rule.keeps_global m.globals then placed (first_found (function_fault rule) 0 m.functions) else Some (fault_at 0 0 0)

-- ---- types

-- the rule of types of a module in its role
abbrev pub typed : Module → Role → Rule
typed m role = record {
  keeps_global = global_typed m role;
  keeps_head = head_typed;
  keeps_instr = λ f (i : Instr). op_typed m role f.result (register_types f) i.op;
}

-- where types first disagree
abbrev pub type_fault_of : Module → Role → Option FaultPlace
type_fault_of m role = first_fault (typed m role) m

-- ---- externals

-- the place of what concerns a function as a whole: its block 0, place 0
abbrev pub at_function : Option ℕ → Option FaultPlace
at_function None = None
at_function (Some k) = Some (fault_at k 0 0)

-- the first declared function that is named anywhere and is no external
abbrev pub external_fault_of : Module → Role → Option FaultPlace
external_fault_of m role = at_function (first_unknown role (is_named (module_names m)) 0 m.functions)
