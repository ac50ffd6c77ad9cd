-- The functions whose address is taken: those that are named anywhere but as the callee of a direct call, in code that runs or not.
use Rattle.std.specs.Prelude.{ℕ, Bool, nat_eq, if◌then◌else◌, List, [], ◌++◌, is_some}
use Rattle.std.specs.List.{flat_map, list_any}
use Rattle.no_ir.specs.declared.instruction.Operand.{Operand}
use Rattle.no_ir.specs.declared.instruction.Op.{Op}
use Rattle.no_ir.specs.declared.instruction.Op.TheVariants as op
use Rattle.no_ir.specs.declared.instruction.Instr.{Instr}
use Rattle.no_ir.specs.declared.function.Block.{Block}
use Rattle.no_ir.specs.declared.function.Function.{Function}
use Rattle.no_ir.specs.declared.function.Module.{Module}
use Rattle.no_ir.specs.declared.function.Role.{Role}
use Rattle.no_ir.specs.declared.function.Role.TheVariants.{Source, Part}
use Rattle.no_module.specs.Instructions.{argument_operands}
use Rattle.no_verify_types.specs.Named.{op_names, operand_names, global_names}
use Rattle.no_verify_types.specs.Typing.{direct}

-- the functions that a callee names otherwise than by a bare name
abbrev pub callee_taken : Operand → List ℕ
callee_taken callee = if is_some (direct callee) then [] else operand_names callee

-- the functions whose address an instruction takes
abbrev pub op_taken : Op → List ℕ
op_taken (op.Call t callee args) = callee_taken callee ++ flat_map operand_names (argument_operands args)
op_taken o = op_names o

-- the functions whose address the instructions of a block take
abbrev pub block_taken : Block → List ℕ
block_taken b = flat_map (λ (i : Instr). op_taken i.op) b.instrs

-- the functions whose address a function's code takes
abbrev pub function_taken : Function → List ℕ
function_taken f = flat_map block_taken f.blocks

-- the numbers of the functions whose address a module takes
abbrev pub module_taken : Module → List ℕ
module_taken m = flat_map global_names m.globals ++ flat_map function_taken m.functions

-- function k may be called through a pointer: its address is taken, or in a server's part it has a device address
abbrev pub is_callable : Module → Role → ℕ → Function → Bool
is_callable m Source k f = list_any (nat_eq k) (module_taken m)
is_callable m Part k f = is_some f.device_address
