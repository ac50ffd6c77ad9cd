-- Which function may call which (LLVM Language Reference, "call Instruction").
use Rattle.std.specs.Prelude.{◌≡◌, ℕ, Bool, true, false, ◌&&◌, nat_eq, List, slice_get, Option, Some, None}
use Rattle.std.specs.List.{Contains, flat_map}
use Rattle.no_ir.specs.declared.types.Ty.{Ty}
use Rattle.no_ir.specs.declared.instruction.Operand.{Operand}
use Rattle.no_ir.specs.declared.instruction.Op.{Op}
use Rattle.no_ir.specs.declared.instruction.Op.TheVariants as op
use Rattle.no_ir.specs.declared.instruction.Instr.{Instr}
use Rattle.no_ir.specs.declared.function.Block.{Block}
use Rattle.no_ir.specs.declared.function.Function.{Function}
use Rattle.no_ir.specs.declared.function.Module.{Module}
use Rattle.no_ir.specs.declared.function.Role.TheVariants.{Source}
use Rattle.no_verify_types.specs.Typing.{direct}
use Rattle.no_semantics.specs.Calls.{has_type}
use Rattle.no_semantics.specs.Taken.{is_callable}

-- the instructions of a function, in code that runs or not
abbrev pub instrs_of : Function → List Instr
instrs_of f = flat_map (λ (b : Block). b.instrs) f.blocks

-- a call may be one of function k, which is g: by its bare name, or through a pointer where it is of the call's type and its address is taken
abbrev pub may_be : Module → Ty → List (Ty × Operand) → ℕ → Function → Option ℕ → Bool
may_be m t args k g (Some named) = nat_eq named k
may_be m t args k g None = is_callable m Source k g && has_type t args g

-- an instruction may call function k, which is g
abbrev pub op_may_call : Module → ℕ → Function → Op → Bool
op_may_call m k g (op.Call t callee args) = may_be m t args k g (direct callee)
op_may_call m k g o = false

-- some instruction of function a may call function k
pub record MayCall (m : Module) (a k : ℕ) : Type 0 where
  pub caller : Function
  pub callee : Function
  pub calls : Instr
  pub from : slice_get m.functions a ≡ Some caller
  pub to : slice_get m.functions k ≡ Some callee
  pub within : Contains (instrs_of caller) calls
  pub may : op_may_call m k callee calls.op ≡ true
