-- What keeps a function on the device where it is reached: input, volatile accesses (LLVM Language Reference, "Volatile Memory Accesses"), and the attribute that pins it.
use Rattle.std.specs.Prelude.{ℕ, ◌+◌, ◌-◌, Bool, true, false, ◌==◌, if◌then◌else◌, List, [], ◌∷◌, length, slice_get, Option, Some, None}
use Rattle.std.specs.List.{list_any}
use Rattle.no_ir.specs.declared.types.Ty.{Ty}
use Rattle.no_ir.specs.declared.instruction.Operand.{Operand}
use Rattle.no_ir.specs.declared.instruction.Op.{Op}
use Rattle.no_ir.specs.declared.instruction.Op.TheVariants as op
use Rattle.no_ir.specs.declared.instruction.Instr.{Instr}
use Rattle.no_ir.specs.declared.function.Block.{Block}
use Rattle.no_ir.specs.declared.function.Function.{Function}
use Rattle.no_ir.specs.declared.function.Module.{Module}
use Rattle.no_ir.specs.declared.function.Role.TheVariants.{Source}
use Rattle.no_module.specs.declared.external.External.{External}
use Rattle.no_module.specs.declared.external.External.TheVariants as external
use Rattle.no_module.specs.Externals.{declared_external}
use Rattle.no_verify_types.specs.Typing.{direct, number_of}

-- ---- input

-- the external that takes a byte of the input
abbrev pub is_input : Option External → Bool
is_input (Some external.GetChar) = true
is_input _ = false

-- the declared function that reads a byte of the input; a defined one of its name is a plain function
abbrev pub reads_input : Function → Bool
reads_input g = is_input (declared_external Source g)

-- ---- volatile accesses, in code that runs or not

-- a number that there is, and that is 1
abbrev pub is_one : Option ℕ → Bool
is_one None = false
is_one (Some n) = n == 1

-- an argument that there is, and that is written as 1
abbrev pub is_true : Option (Ty × Operand) → Bool
is_true None = false
is_true (Some arg) = is_one (number_of arg.1)

-- the last argument of a memory intrinsic says whether its accesses are volatile
abbrev pub memory_volatile : Option External → List (Ty × Operand) → Bool
memory_volatile (Some external.Move) args = is_true (slice_get args (length args - 1))
memory_volatile (Some external.Set) args = is_true (slice_get args (length args - 1))
memory_volatile _ args = false

-- the external that a function is, where there is a function and it is declared as one
abbrev pub external_at : Option Function → Option External
external_at None = None
external_at (Some g) = declared_external Source g

-- a direct call of a memory intrinsic whose accesses are volatile
abbrev pub callee_volatile : Module → List (Ty × Operand) → Option ℕ → Bool
callee_volatile m args None = false
callee_volatile m args (Some k) = memory_volatile (external_at (slice_get m.functions k)) args

-- an instruction makes a volatile access
abbrev pub op_volatile : Module → Op → Bool
op_volatile m (op.Load volatile t a) = volatile
op_volatile m (op.Store volatile t v a) = volatile
op_volatile m (op.Call t callee args) = callee_volatile m args (direct callee)
op_volatile m o = false

-- some instruction of a block makes a volatile access
abbrev pub block_volatile : Module → Block → Bool
block_volatile m b = list_any (λ (i : Instr). op_volatile m i.op) b.instrs

-- some instruction of a function makes a volatile access
abbrev pub is_volatile : Module → Function → Bool
is_volatile m g = list_any (block_volatile m) g.blocks

-- ---- the functions in question, by number

-- the functions that pass a test, by their numbers from k on
abbrev pub those_from : (Function → Bool) → ℕ → List Function → List ℕ
those_from test k [] = []
those_from test k (g ∷ more) = if test g then k ∷ those_from test (k + 1) more else those_from test (k + 1) more

-- the functions that read input
abbrev pub inputs : Module → List ℕ
inputs m = those_from reads_input 0 m.functions

-- the functions that make volatile accesses
abbrev pub volatiles : Module → List ℕ
volatiles m = those_from (is_volatile m) 0 m.functions

-- the functions that their attribute pins to the device
abbrev pub pinned : Module → List ℕ
pinned m = those_from (λ (g : Function). g.bound) 0 m.functions
