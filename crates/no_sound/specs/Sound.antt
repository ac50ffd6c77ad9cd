-- Modules of which a machine runs each instruction.
use Rattle.std.specs.Prelude.{ℕ, ◌+◌, ◌^◌, Bool, true, false, ◌&&◌, ◌==◌, nat_lt, List, [], ◌∷◌, length, map, slice_get, if◌then◌else◌, Option, Some, None}
use Rattle.std.specs.List.{list_all}
use Rattle.no_ir.specs.declared.types.Ty.{Ty, out-Ty}
use Rattle.no_ir.specs.declared.types.Ty.TheOpen.{Ty-F}
use Rattle.no_ir.specs.declared.types.Ty.TheVariants as ty
use Rattle.no_ir.specs.declared.constant.Const.{Const}
use Rattle.no_ir.specs.declared.constant.Const.TheVariants as const
use Rattle.no_ir.specs.declared.constant.Place.{Place}
use Rattle.no_ir.specs.declared.constant.Symbol.{Symbol}
use Rattle.no_ir.specs.declared.constant.Symbol.TheVariants as symbol
use Rattle.no_ir.specs.declared.instruction.CastOp.{CastOp}
use Rattle.no_ir.specs.declared.instruction.CastOp.TheVariants as cast
use Rattle.no_ir.specs.declared.instruction.Operand.{Operand}
use Rattle.no_ir.specs.declared.instruction.Operand.TheVariants as operand
use Rattle.no_ir.specs.declared.instruction.Op.{Op}
use Rattle.no_ir.specs.declared.instruction.Op.TheVariants as op
use Rattle.no_ir.specs.declared.instruction.Instr.{Instr}
use Rattle.no_ir.specs.declared.function.Block.{Block}
use Rattle.no_ir.specs.declared.function.Function.{Function}
use Rattle.no_ir.specs.declared.function.Module.{Module}
use Rattle.no_eval.specs.Numbers.{modulo}
use Rattle.no_layout.specs.Sizes.{type_size, type_align}
use Rattle.no_layout.specs.Text.{is_formed}
use Rattle.no_layout.specs.declared.extent.Extent.{Extent}
use Rattle.no_layout.specs.declared.layout.Layout.{Layout}
pub use Rattle.no_module.specs.Widths.{is_width}
pub use Rattle.no_room.specs.Fits.{type_fits}
use Rattle.no_sound.specs.Indices.{path_leads, resolved, told_of}
use Rattle.no_sound.specs.Widths.{width_of}

-- ---- types

-- the form of an integer type or of ptr
abbrev pub is_scalar_step : Ty-F Ty → Bool
is_scalar_step (Ty-F.Int w) = is_width w
is_scalar_step Ty-F.Ptr = true
is_scalar_step _ = false

-- an integer type or ptr
abbrev pub is_scalar : Ty → Bool
is_scalar t = is_scalar_step (out-Ty t)

-- the widths that a conversion goes between
abbrev pub goes_between : CastOp → ℕ → ℕ → Bool
goes_between cast.Trunc from to = nat_lt to from
goes_between cast.ZExt from to = nat_lt from to
goes_between cast.SExt from to = nat_lt from to
goes_between cast.PtrToInt from to = true
goes_between cast.IntToPtr from to = true
goes_between cast.BitCast from to = from == to

-- ---- named types

-- two types have the same size and alignment
abbrev pub same_numbers : Layout → List Extent → Ty → Ty → Bool
same_numbers l sizes t u = type_size l sizes t == type_size l sizes u && type_align l sizes t == type_align l sizes u

-- named type k fits, and the table has its numbers
abbrev pub entry_holds : Layout → List Extent → ℕ → Ty → Bool
entry_holds l sizes k t = type_fits l sizes t && (type_fits l sizes (ty.Named k) && same_numbers l sizes (ty.Named k) t)

-- named types from type k on fit, and the table has their numbers
abbrev pub table_holds : Layout → List Extent → ℕ → List (List ℕ × Ty) → Bool
table_holds l sizes k [] = true
table_holds l sizes k (named ∷ more) = entry_holds l sizes k named.1 && table_holds l sizes (k + 1) more

-- ---- places in constants: the module has the symbol, and the indices lead somewhere

-- the module has this global or function
abbrev pub symbol_fits : Module → Symbol → Bool
symbol_fits m (symbol.Global k) = nat_lt k (length m.globals)
symbol_fits m (symbol.Function k) = nat_lt k (length m.functions)
symbol_fits m _ = false

-- the module has the symbol of a place, its type fits, and its indices lead somewhere
abbrev pub place_fits : Module → Layout → List Extent → Place → Bool
place_fits m l sizes place = symbol_fits m place.symbol && (type_fits l sizes place.base && path_leads m.types place.base (map (modulo l.pointer) place.indices))

-- ---- operands: a register, a number, null, or a place that the module has

-- a constant as an operand: if it is an address, the module has the place
abbrev pub constant_fits : Module → Layout → List Extent → Const → Bool
constant_fits m l sizes (const.Address place) = place_fits m l sizes place
constant_fits m l sizes (const.AddressAsInt place) = place_fits m l sizes place
constant_fits m l sizes _ = true

-- an operand that a machine can evaluate
abbrev pub operand_fits : Module → Layout → List Extent → Operand → Bool
operand_fits m l sizes (operand.Reg r) = true
operand_fits m l sizes (operand.Const c) = constant_fits m l sizes c

-- ---- instructions

-- the count of an alloca, where there is one: a width of integers, and an operand
abbrev pub count_fits : Module → Layout → List Extent → Option (ℕ × Operand) → Bool
count_fits m l sizes None = true
count_fits m l sizes (Some count) = is_width count.0 && operand_fits m l sizes count.1

-- a stated alignment is at least 1
abbrev pub align_fits : Option ℕ → Bool
align_fits None = true
align_fits (Some align) = nat_lt 0 align

-- an index: a width of integers, and an operand
abbrev pub index_fits : Module → Layout → List Extent → ℕ × Operand → Bool
index_fits m l sizes index = is_width index.0 && operand_fits m l sizes index.1

-- the number that a constant is, where it is one
abbrev pub constant_number : Const → Option ℕ
constant_number (const.Int n) = Some n
constant_number _ = None

-- the number that an operand is, where it is a constant one
abbrev pub operand_number : Operand → Option ℕ
operand_number (operand.Reg r) = None
operand_number (operand.Const c) = constant_number c

-- the number of a field, which is a constant i32
abbrev pub field_number : ℕ × Operand → Option ℕ
field_number index = if index.0 == 32 then operand_number index.1 else None

-- the type of the field of a number, which has at most 31 bits
abbrev pub field_of : List Ty → Option ℕ → Option Ty
field_of fields None = None
field_of fields (Some i) = if nat_lt i (2 ^ 31) then slice_get fields i else None

-- the type of what an index leads to: any into an array, and that of a field into a struct
abbrev pub known_part : Ty-F Ty → ℕ × Operand → Option Ty
known_part (Ty-F.Array count element) index = Some element
known_part (Ty-F.Struct packed fields) index = field_of fields (field_number index)
known_part _ index = None

-- each index after the first leads somewhere
abbrev pub inner_fit : Module → Layout → List Extent → Ty → List (ℕ × Operand) → Bool
inner_fit m l sizes t [] = true
inner_fit m l sizes t (index ∷ others) =
    index_fits m l sizes index && told_of false (known_part (out-Ty (resolved m.types t)) index) (λ u. inner_fit m l sizes u others)

-- the indices of a getelementptr: each is an operand, and each after the first leads somewhere
abbrev pub indices_fit : Module → Layout → List Extent → Ty → List (ℕ × Operand) → Bool
indices_fit m l sizes t [] = true
indices_fit m l sizes t (index ∷ others) = index_fits m l sizes index && inner_fit m l sizes t others

-- an argument is of an integer type or ptr
abbrev pub arg_fits : Module → Layout → List Extent → Ty × Operand → Bool
arg_fits m l sizes arg = is_scalar arg.0 && operand_fits m l sizes arg.1

-- each argument of a call is of an integer type or ptr
abbrev pub args_fit : Module → Layout → List Extent → List (Ty × Operand) → Bool
args_fit m l sizes args = list_all (arg_fits m l sizes) args

-- what a phi takes on an edge is an operand
abbrev pub pair_fits : Module → Layout → List Extent → Operand × ℕ → Bool
pair_fits m l sizes pair = operand_fits m l sizes pair.0

-- an operation that a machine runs: its types and widths are ones that registers have, and its operands can be evaluated
abbrev pub op_fits : Module → Layout → List Extent → Op → Bool
op_fits m l sizes (op.Binary o w a b) = is_width w && (operand_fits m l sizes a && operand_fits m l sizes b)
op_fits m l sizes (op.Compare o t a b) = is_scalar t && (operand_fits m l sizes a && operand_fits m l sizes b)
op_fits m l sizes (op.Cast o t a u) = (is_scalar t && is_scalar u) && (goes_between o (width_of l t) (width_of l u) && operand_fits m l sizes a)
op_fits m l sizes (op.Freeze t a) = is_scalar t && operand_fits m l sizes a
op_fits m l sizes (op.Select c t a b) = (is_scalar t && operand_fits m l sizes c) && (operand_fits m l sizes a && operand_fits m l sizes b)
op_fits m l sizes (op.Alloca t count align) = type_fits l sizes t && (count_fits m l sizes count && align_fits align)
op_fits m l sizes (op.Load volatile t a) = is_scalar t && operand_fits m l sizes a
op_fits m l sizes (op.Store volatile t v a) = is_scalar t && (operand_fits m l sizes v && operand_fits m l sizes a)
op_fits m l sizes (op.Gep t a indices) = type_fits l sizes t && (operand_fits m l sizes a && indices_fit m l sizes t indices)
op_fits m l sizes (op.Phi t pairs) = is_scalar t && list_all (pair_fits m l sizes) pairs
op_fits m l sizes (op.Call t g args) = operand_fits m l sizes g && args_fit m l sizes args
op_fits m l sizes (op.Br to) = true
op_fits m l sizes (op.CondBr c to other) = operand_fits m l sizes c
op_fits m l sizes (op.Switch w a to cases) = is_width w && operand_fits m l sizes a
op_fits m l sizes (op.Ret None) = true
op_fits m l sizes (op.Ret (Some x)) = arg_fits m l sizes x
op_fits m l sizes op.Unreachable = true

-- ---- modules

-- a block of which a machine runs each instruction
abbrev pub block_fits : Module → Layout → List Extent → Block → Bool
block_fits m l sizes b = list_all (λ (i : Instr). op_fits m l sizes i.op) b.instrs

-- a function of which a machine runs each instruction
abbrev pub function_fits : Module → Layout → List Extent → Function → Bool
function_fits m l sizes f = list_all (block_fits m l sizes) f.blocks

-- the layout is one that a layout string states, the sizes are those of the named types, and a machine runs each instruction
unfoldable pub is_sound : Module → Layout → List Extent → Bool
is_sound m l sizes = is_formed l && (table_holds l sizes 0 m.types && list_all (function_fits m l sizes) m.functions)
