-- The marks of a server's part: inserted instructions and device addresses (docs/LANGUAGE.md, "Marks").
use Rattle.std.specs.Prelude.{ℕ, Bool, true, false, ◌&&◌, ◌||◌, not, is_some, bytes_eq, codes, List, [], ◌∷◌, length, slice_get, take, Option, Some, None}
use Rattle.std.specs.List.{flat_map, list_all}
use Rattle.no_ir.specs.declared.constant.Place.{Place}
use Rattle.no_ir.specs.declared.constant.Symbol.{Symbol}
use Rattle.no_ir.specs.declared.constant.Symbol.TheVariants as symbol
use Rattle.no_ir.specs.declared.instruction.BinOp.{BinOp}
use Rattle.no_ir.specs.declared.instruction.BinOp.TheVariants as binop
use Rattle.no_ir.specs.declared.instruction.CastOp.{CastOp}
use Rattle.no_ir.specs.declared.instruction.CastOp.TheVariants as cast
use Rattle.no_ir.specs.declared.instruction.Operand.{Operand}
use Rattle.no_ir.specs.declared.instruction.Op.{Op}
use Rattle.no_ir.specs.declared.instruction.Op.TheVariants as op
use Rattle.no_ir.specs.declared.instruction.Instr.{Instr}
use Rattle.no_ir.specs.declared.function.Function.{Function}
use Rattle.no_ir.specs.declared.function.GlobalVar.{GlobalVar}
use Rattle.no_ir.specs.declared.function.Module.{Module}
use Rattle.no_ir.specs.declared.function.Role.{Role}
use Rattle.no_ir.specs.declared.function.Role.TheVariants.{Source, Part}
use Rattle.no_verify_types.specs.declared.place.FaultPlace.{FaultPlace}
use Rattle.no_module.specs.Functions.{is_declared}
use Rattle.no_verify_types.specs.Addresses.{is_intrinsic}
use Rattle.no_verify_types.specs.Typing.{direct}
use Rattle.no_verify_structure.specs.Finding.{first_instr, first_at, first_place, unless, unless_whole}
use Rattle.no_verify_structure.specs.Names.{is_in}
use Rattle.no_module.specs.Instructions.{argument_operands}
use Rattle.no_verify_structure.specs.Parts.{operand_keeps, operands_keep}

-- ---- inserted instructions: conversions but bitcast, add, mul, and calls of llvm.bswap and no.map

-- an operator of which the partition inserts instructions
abbrev pub inserted_binary : BinOp → Bool
inserted_binary binop.Add = true
inserted_binary binop.Mul = true
inserted_binary _ = false

-- a conversion of which the partition inserts instructions
abbrev pub inserted_cast : CastOp → Bool
inserted_cast cast.BitCast = false
inserted_cast _ = true

-- the name of a function of which the partition inserts calls
abbrev pub is_helper_name : List ℕ → Bool
is_helper_name name =
    bytes_eq name (codes "llvm.bswap.i16")
    || (bytes_eq name (codes "llvm.bswap.i32")
    || (bytes_eq name (codes "llvm.bswap.i64")
    || bytes_eq name (codes "no.map")))

-- a declared function of such a name
abbrev pub is_helper : Option Function → Bool
is_helper None = false
is_helper (Some g) = is_declared g && is_helper_name g.name

-- the callee of a direct call is such a function
abbrev pub calls_helper : Module → Option ℕ → Bool
calls_helper m None = false
calls_helper m (Some k) = is_helper (slice_get m.functions k)

-- an instruction of a kind that the partition inserts
abbrev pub may_be_inserted : Module → Op → Bool
may_be_inserted m (op.Binary o w a b) = inserted_binary o
may_be_inserted m (op.Cast o t a u) = inserted_cast o
may_be_inserted m (op.Call t callee arguments) = calls_helper m (direct callee)
may_be_inserted m _ = false

-- ---- functions as values

-- a symbol that is no function
abbrev pub is_no_function : Symbol → Bool
is_no_function (symbol.Function k) = false
is_no_function _ = true

-- an address that does not begin at a function
abbrev pub names_no_function : Place → Bool
names_no_function place = is_no_function place.symbol

-- no address in an operand begins at a function
abbrev pub operand_free : Operand → Bool
operand_free o = operand_keeps (λ r. true) names_no_function o

-- a function is named as the callee of a direct call alone
abbrev pub functions_called : Op → Bool
functions_called (op.Call t callee arguments) = (is_some (direct callee) || operand_free callee) && list_all operand_free (argument_operands arguments)
functions_called o = operands_keep (λ r. true) names_no_function o

-- an instruction keeps the rules of marks: it may be inserted where it is marked so, and names functions as callees alone
abbrev pub instr_marked : Module → Instr → Bool
instr_marked m i = (not i.inserted || may_be_inserted m i.op) && functions_called i.op

-- ---- device addresses

-- the device address of a function, if it has one
abbrev pub address_list : Option ℕ → List ℕ
address_list None = []
address_list (Some a) = a ∷ []

-- the device addresses of functions, in order
abbrev pub addresses_of : List Function → List ℕ
addresses_of functions = flat_map (λ (f : Function). address_list f.device_address) functions

-- a function's device address is none of these, and only a function whose address can be taken has one
abbrev pub address_fits : List ℕ → Function → Option ℕ → Bool
address_fits before f None = true
address_fits before f (Some a) = not (is_in before a) && not (is_intrinsic Part f)

-- where function k breaks a rule of marks: its device address at 0, 0, or the first instruction
abbrev pub function_marks : Module → ℕ → Function → Option (ℕ × ℕ)
function_marks m k f = unless (address_fits (addresses_of (take k m.functions)) f f.device_address) (first_instr (instr_marked m) f.blocks)

-- ---- modules: a part has no globals

-- a module without globals
abbrev pub has_no_globals : List GlobalVar → Bool
has_no_globals [] = true
has_no_globals _ = false

-- where a part breaks a rule of its marks: globals at 0, 0, 0
abbrev pub part_marks : Module → Option FaultPlace
part_marks m = unless_whole (has_no_globals m.globals) (first_place (function_marks m) m.functions)

-- where a part breaks a rule of its marks; a source has none
abbrev pub marks_of : Module → Role → Option FaultPlace
marks_of m Source = None
marks_of m Part = part_marks m
