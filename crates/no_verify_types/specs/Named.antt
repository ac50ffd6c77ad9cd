-- The functions that a module names: in first values, and in operands of reachable code and of any other.
use Rattle.std.specs.Prelude.{ℕ, ◌+◌, Bool, ◌&&◌, not, nat_eq, if◌then◌else◌, List, [], ◌∷◌, ◌++◌, Option, Some, None}
use Rattle.std.specs.List.{concat, flat_map, list_any}
use Rattle.no_ir.specs.declared.constant.Const.{Const}
use Rattle.no_ir.specs.declared.constant.Const.TheOpen.{Const-F}
use Rattle.no_ir.specs.declared.constant.Const.TheFolds.{fold-Const}
use Rattle.no_ir.specs.declared.constant.Symbol.{Symbol}
use Rattle.no_ir.specs.declared.constant.Symbol.TheVariants as symbol
use Rattle.no_ir.specs.declared.instruction.Operand.{Operand}
use Rattle.no_ir.specs.declared.instruction.Operand.TheVariants as operand
use Rattle.no_ir.specs.declared.instruction.Op.{Op}
use Rattle.no_ir.specs.declared.instruction.Instr.{Instr}
use Rattle.no_ir.specs.declared.function.Block.{Block}
use Rattle.no_ir.specs.declared.function.Function.{Function}
use Rattle.no_ir.specs.declared.function.GlobalVar.{GlobalVar}
use Rattle.no_ir.specs.declared.function.Module.{Module}
use Rattle.no_ir.specs.declared.function.Role.{Role}
use Rattle.no_module.specs.Functions.{is_declared}
use Rattle.no_module.specs.Externals.{is_external}
use Rattle.no_module.specs.Instructions.{operands_of}

-- the number of the function that a symbol names, if it names one
abbrev pub symbol_names : Symbol → List ℕ
symbol_names (symbol.Function k) = k ∷ []
symbol_names _ = []

-- the functions that a constant names, from those that its parts name
abbrev pub constant_step : Const-F (List ℕ) → List ℕ
constant_step (Const-F.Array elements) = concat elements
constant_step (Const-F.Struct fields) = concat fields
constant_step (Const-F.Address place) = symbol_names place.symbol
constant_step (Const-F.AddressAsInt place) = symbol_names place.symbol
constant_step _ = []

-- the numbers of the functions that a constant names, in order
abbrev pub constant_names : Const → List ℕ
constant_names = fold-Const (List ℕ) constant_step

-- those that an operand names; a register names none
abbrev pub operand_names : Operand → List ℕ
operand_names (operand.Reg r) = []
operand_names (operand.Const c) = constant_names c

-- those that an instruction names, in order
abbrev pub op_names : Op → List ℕ
op_names o = flat_map operand_names (operands_of o)

-- those that the instructions of a block name
abbrev pub block_names : Block → List ℕ
block_names b = flat_map (λ (i : Instr). op_names i.op) b.instrs

-- those that a function's code names, reachable or not
abbrev pub function_names : Function → List ℕ
function_names f = flat_map block_names f.blocks

-- those that the first value of a global names
abbrev pub global_names : GlobalVar → List ℕ
global_names g = constant_names g.init

-- those that a module names anywhere
abbrev pub module_names : Module → List ℕ
module_names m = flat_map global_names m.globals ++ flat_map function_names m.functions

-- ---- declared functions that are used and unknown

-- function k is among those that are named
abbrev pub is_named : List ℕ → ℕ → Bool
is_named names k = list_any (nat_eq k) names

-- a declared function that is used and is no external
abbrev pub is_unknown : Role → Bool → Function → Bool
is_unknown role used f = used && (is_declared f && not (is_external role f.name f.result f.params))

-- the first one among functions that are numbered from k on, of which those of these numbers are used
abbrev pub first_unknown : Role → (ℕ → Bool) → ℕ → List Function → Option ℕ
first_unknown role used k [] = None
first_unknown role used k (f ∷ more) = if is_unknown role (used k) f then Some k else first_unknown role used (k + 1) more
