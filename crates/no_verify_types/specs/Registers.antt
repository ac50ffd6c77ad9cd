-- The types of a function's registers (LLVM Language Reference, "Instruction Reference").
use Rattle.std.specs.Prelude.{ℕ, ◌==◌, if◌then◌else◌, List, [], ◌∷◌, ◌++◌, map, length, slice_get, Option, Some, None}
use Rattle.std.specs.List.{flat_map, range_with_len}
use Rattle.no_ir.specs.declared.types.Ty.{Ty}
use Rattle.no_ir.specs.declared.instruction.Op.{Op}
use Rattle.no_ir.specs.declared.instruction.Op.TheVariants as op
use Rattle.no_ir.specs.declared.instruction.Instr.{Instr}
use Rattle.no_ir.specs.declared.function.Block.{Block}
use Rattle.no_ir.specs.declared.function.Function.{Function}
use Rattle.no_module.specs.declared.scalar.Scalar.{Scalar}
use Rattle.no_module.specs.declared.scalar.Scalar.TheVariants as scalar
use Rattle.no_module.specs.Scalars.{integer, scalar_of}

-- the type of an instruction's result
abbrev pub result_of : Op → Option Scalar
result_of (op.Binary o w a b) = integer w
result_of (op.Compare p t a b) = Some (scalar.Int 1)
result_of (op.Cast o t a u) = scalar_of u
result_of (op.Freeze t a) = scalar_of t
result_of (op.Select c t a b) = scalar_of t
result_of (op.Phi t pairs) = scalar_of t
result_of (op.Alloca t count align) = Some scalar.Ptr
result_of (op.Load volatile t a) = scalar_of t
result_of (op.Gep t a indices) = Some scalar.Ptr
result_of (op.Call t callee args) = scalar_of t
result_of _ = None

-- ---- what a function defines: a register, and its type

-- the register of a result with the result's type; nothing where no register is assigned
abbrev pub result_defined : Option ℕ → Option Scalar → List (ℕ × Option Scalar)
result_defined None s = []
result_defined (Some r) s = (r, s) ∷ []

-- the register that an instruction defines, with its type
abbrev pub instr_defined : Instr → List (ℕ × Option Scalar)
instr_defined i = result_defined i.result (result_of i.op)

-- the registers that the instructions of a block define, in order
abbrev pub block_defined : Block → List (ℕ × Option Scalar)
block_defined b = flat_map instr_defined b.instrs

-- the register that a parameter defines, with its type
abbrev pub param_defined : ℕ × Ty → ℕ × Option Scalar
param_defined p = (p.0, scalar_of p.1)

-- the parameters, and then the results in order
abbrev pub all_defined : Function → List (ℕ × Option Scalar)
all_defined f = map param_defined f.params ++ flat_map block_defined f.blocks

-- ---- the type of a register: that of its first definition

-- the type of register r in its first definition, none where nothing defines it
abbrev pub first_type : List (ℕ × Option Scalar) → ℕ → Option Scalar
first_type [] r = None
first_type (d ∷ more) r = if d.0 == r then d.1 else first_type more r

-- the type of each register of a function, in their order
abbrev pub register_types : Function → List (Option Scalar)
register_types f = map (first_type (all_defined f)) (range_with_len 0 (length f.registers))

-- the type that a table has for a register, none where it has no such register
abbrev pub known_type : Option (Option Scalar) → Option Scalar
known_type None = None
known_type (Some s) = s

-- the type of register r by the types of all; one that the function does not have has none
abbrev pub type_at : List (Option Scalar) → ℕ → Option Scalar
type_at types r = known_type (slice_get types r)
