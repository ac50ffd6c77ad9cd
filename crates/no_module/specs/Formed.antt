-- Formed modules: what a tree has to be before anything else is asked of it, as the reader makes it.
use Rattle.std.specs.Prelude.{◌≡◌, ℕ, ◌+◌, ℤ, Bool, true, false, ◌&&◌, ◌||◌, nat_lt, List, [], ◌∷◌, length, Option, Some, None}
use Rattle.std.specs.List.{list_all}
use Rattle.no_ir.specs.declared.types.Ty.{Ty, out-Ty}
use Rattle.no_ir.specs.declared.types.Ty.TheOpen.{Ty-F}
use Rattle.no_ir.specs.declared.types.Ty.TheFolds.{fold-Ty}
use Rattle.no_ir.specs.declared.types.Ty.TheVariants as ty
use Rattle.no_ir.specs.declared.constant.Const.{Const}
use Rattle.no_ir.specs.declared.constant.Const.TheOpen.{Const-F}
use Rattle.no_ir.specs.declared.constant.Const.TheFolds.{fold-Const}
use Rattle.no_ir.specs.declared.constant.Place.{Place}
use Rattle.no_ir.specs.declared.constant.Symbol.{Symbol}
use Rattle.no_ir.specs.declared.constant.Symbol.TheVariants as symbol
use Rattle.no_ir.specs.declared.instruction.Operand.{Operand}
use Rattle.no_ir.specs.declared.instruction.Operand.TheVariants as operand
use Rattle.no_ir.specs.declared.instruction.Op.{Op}
use Rattle.no_ir.specs.declared.instruction.Op.TheVariants as op
use Rattle.no_ir.specs.declared.instruction.Instr.{Instr}
use Rattle.no_ir.specs.declared.function.Block.{Block}
use Rattle.no_ir.specs.declared.function.Function.{Function}
use Rattle.no_ir.specs.declared.function.GlobalVar.{GlobalVar}
use Rattle.no_ir.specs.declared.function.Module.{Module}
use Rattle.no_module.specs.Named.{resolved}
use Rattle.no_module.specs.Scalars.{is_void}
use Rattle.no_module.specs.Widths.{is_width, is_below, is_alignment}

-- ---- types

-- one form of a type, where it is known whether the types inside it are formed
abbrev pub type_step : ℕ → Ty-F Bool → Bool
type_step n Ty-F.Void = false
type_step n (Ty-F.Int w) = is_width w
type_step n Ty-F.Ptr = true
type_step n (Ty-F.Array count element) = element
type_step n (Ty-F.Struct packed fields) = list_all (λ field. field) fields
type_step n (Ty-F.Named k) = nat_lt k n

-- a type without void in it, of the widths of integers, whose named types have numbers below n
abbrev pub type_formed : ℕ → Ty → Bool
type_formed n = fold-Ty Bool (type_step n)

-- the type of a result, which may be void
abbrev pub result_formed : ℕ → Ty → Bool
result_formed n t = is_void t || type_formed n t

-- each named type refers to lower numbers alone; these have numbers from n on
abbrev pub types_formed : ℕ → List (List ℕ × Ty) → Bool
types_formed n [] = true
types_formed n (named ∷ more) = type_formed n named.1 && types_formed (n + 1) more

-- ---- addresses

-- how many globals, functions and named types a module has, and its named types
pub record Counts : Type 0 where
  pub globals : ℕ
  pub functions : ℕ
  pub types : List (List ℕ × Ty)

-- the counts of a module
abbrev pub counts_of : Module → Counts
counts_of m = record { globals = length m.globals; functions = length m.functions; types = m.types }

-- a global or a function of the module; a name that it does not define has no number
abbrev pub symbol_formed : Counts → Symbol → Bool
symbol_formed c (symbol.Global k) = nat_lt k c.globals
symbol_formed c (symbol.Function k) = nat_lt k c.functions
symbol_formed c (symbol.Unknown name) = true

-- the base of a bare name is void, and that of any other place a type
abbrev pub base_formed : Counts → Ty → List ℤ → Bool
base_formed c base [] = is_void base
base_formed c base (i ∷ others) = type_formed (length c.types) base

-- an address: its symbol is formed, and its base is a type just where it has indices
abbrev pub place_formed : Counts → Place → Bool
place_formed c place = symbol_formed c place.symbol && base_formed c place.base place.indices

-- ---- constants at a type

-- a number at a form of a type: below 2 to the power of its width, where it is an integer's
abbrev pub number_in : ℕ → Ty-F Ty → Bool
number_in n (Ty-F.Int w) = is_below w n
number_in n _ = true

-- a number at an integer type is below 2 to the power of its width; what has the wrong form for its type is no matter here
abbrev pub number_formed : ℕ → Ty → Bool
number_formed n t = number_in n (out-Ty t)

-- elements at a form of a type: each at the element type, where it is an array's
abbrev pub elements_in : List (Ty → Bool) → Ty-F Ty → Bool
elements_in elements (Ty-F.Array count element) = list_all (λ formed. formed element) elements
elements_in elements _ = true

-- each field at its own type
abbrev pub fields_formed : List (Ty → Bool) → List Ty → Bool
fields_formed [] ts = true
fields_formed (field ∷ fields) [] = true
fields_formed (field ∷ fields) (t ∷ ts) = field t && fields_formed fields ts

-- fields at a form of a type: each at its own type, where it is a struct's
abbrev pub fields_in : List (Ty → Bool) → Ty-F Ty → Bool
fields_in fields (Ty-F.Struct packed ts) = fields_formed fields ts
fields_in fields _ = true

-- one form of a constant at a type, where it is known at which types the constants inside it are formed
abbrev pub constant_step : Counts → Const-F (Ty → Bool) → Ty → Bool
constant_step c Const-F.Zero t = true
constant_step c (Const-F.Int n) t = number_formed n (resolved c.types t)
constant_step c (Const-F.Str bytes) t = true
constant_step c (Const-F.Array elements) t = elements_in elements (out-Ty (resolved c.types t))
constant_step c (Const-F.Struct fields) t = fields_in fields (out-Ty (resolved c.types t))
constant_step c (Const-F.Address place) t = place_formed c place
constant_step c (Const-F.AddressAsInt place) t = place_formed c place
constant_step c (Const-F.IntAsPtr n) t = true

-- a constant at a type: each integer is below 2 to the power of its type's width, and each address is formed
abbrev pub constant_formed : Counts → Const → Ty → Bool
constant_formed c = fold-Const (Ty → Bool) (constant_step c)

-- a power of two up to 65,536, where an alignment is stated
abbrev pub alignment_formed : Option ℕ → Bool
alignment_formed None = true
alignment_formed (Some n) = is_alignment n

-- a global: its type, its initialiser at this type, and its alignment
abbrev pub global_formed : Counts → GlobalVar → Bool
global_formed c g = type_formed (length c.types) g.ty && (constant_formed c g.init g.ty && alignment_formed g.align)

-- ---- instructions

-- how many registers and labels a function has, in a module
pub record Within : Type 0 where
  pub counts : Counts
  pub registers : ℕ
  pub labels : ℕ

-- a type in a function of the module
abbrev pub a_type_formed : Within → Ty → Bool
a_type_formed f t = type_formed (length f.counts.types) t

-- an operand at a type
abbrev pub operand_formed : Within → Ty → Operand → Bool
operand_formed f t (operand.Reg r) = nat_lt r f.registers
operand_formed f t (operand.Const c) = constant_formed f.counts c t

-- an operand with its type
abbrev pub value_formed : Within → Ty × Operand → Bool
value_formed f x = a_type_formed f x.0 && operand_formed f x.0 x.1

-- an operand with the width of its integer type
abbrev pub integer_formed : Within → ℕ × Operand → Bool
integer_formed f x = is_width x.0 && operand_formed f (ty.Int x.0) x.1

-- a label of the function
abbrev pub label_formed : Within → ℕ → Bool
label_formed f l = nat_lt l f.labels

-- a pair of a phi: its value at the phi's type, and its label
abbrev pub pair_formed : Within → Ty → Operand × ℕ → Bool
pair_formed f t pair = operand_formed f t pair.0 && label_formed f pair.1

-- a case of a switch: a number of the switch's width, and a label
abbrev pub case_formed : Within → ℕ → ℕ × ℕ → Bool
case_formed f w case = is_below w case.0 && label_formed f case.1

-- the count of an alloca, where it has one
abbrev pub count_formed : Within → Option (ℕ × Operand) → Bool
count_formed f None = true
count_formed f (Some count) = integer_formed f count

-- the value of a return, where it has one
abbrev pub returned_formed : Within → Option (Ty × Operand) → Bool
returned_formed f None = true
returned_formed f (Some x) = value_formed f x

-- an operation: its widths, types, operands, labels and alignments
abbrev pub op_formed : Within → Op → Bool
op_formed f (op.Binary o w a b) = is_width w && (operand_formed f (ty.Int w) a && operand_formed f (ty.Int w) b)
op_formed f (op.Compare p t a b) = a_type_formed f t && (operand_formed f t a && operand_formed f t b)
op_formed f (op.Cast o t a u) = a_type_formed f t && (operand_formed f t a && a_type_formed f u)
op_formed f (op.Freeze t a) = a_type_formed f t && operand_formed f t a
op_formed f (op.Select c t a b) = operand_formed f (ty.Int 1) c && (a_type_formed f t && (operand_formed f t a && operand_formed f t b))
op_formed f (op.Phi t pairs) = a_type_formed f t && list_all (pair_formed f t) pairs
op_formed f (op.Alloca t count align) = a_type_formed f t && (count_formed f count && alignment_formed align)
op_formed f (op.Load volatile t a) = a_type_formed f t && operand_formed f ty.Ptr a
op_formed f (op.Store volatile t v a) = a_type_formed f t && (operand_formed f t v && operand_formed f ty.Ptr a)
op_formed f (op.Gep t a indices) = a_type_formed f t && (operand_formed f ty.Ptr a && list_all (integer_formed f) indices)
op_formed f (op.Call t callee args) = result_formed (length f.counts.types) t && (operand_formed f ty.Ptr callee && list_all (value_formed f) args)
op_formed f (op.Br l) = label_formed f l
op_formed f (op.CondBr c l k) = operand_formed f (ty.Int 1) c && (label_formed f l && label_formed f k)
op_formed f (op.Switch w a l cases) = is_width w && (operand_formed f (ty.Int w) a && (label_formed f l && list_all (case_formed f w) cases))
op_formed f (op.Ret x) = returned_formed f x
op_formed f op.Unreachable = true

-- the register that it assigns is one of the function's
abbrev pub register_formed : Within → Option ℕ → Bool
register_formed f None = true
register_formed f (Some r) = nat_lt r f.registers

-- an instruction: the register that it assigns, and its operation
abbrev pub instr_formed : Within → Instr → Bool
instr_formed f i = register_formed f i.result && op_formed f i.op

-- a block: its label and its instructions
abbrev pub block_formed : Within → Block → Bool
block_formed f b = label_formed f b.label && list_all (instr_formed f) b.instrs

-- ---- functions and modules

-- a parameter: its register and its type
abbrev pub param_formed : Within → ℕ × Ty → Bool
param_formed f p = nat_lt p.0 f.registers && a_type_formed f p.1

-- the counts of a function, in a module with these
abbrev pub within : Counts → Function → Within
within c f = record { counts = c; registers = length f.registers; labels = length f.labels }

-- a function: its result, its parameters and its blocks
abbrev pub function_formed : Counts → Function → Bool
function_formed c f = result_formed (length c.types) f.result && (list_all (param_formed (within c f)) f.params && list_all (block_formed (within c f)) f.blocks)

-- a module is formed where every width of an integer is 1, 8, 16, 32 or 64, every integer constant and case at a type of w
-- bits is below 2 to the power of w, every stated alignment is a power of two up to 65,536, a named type refers to lower
-- numbers alone, each number of a type, register, label, global or function is below the length of its list, and void
-- stands only as a result and as the base of a bare name
pub record IsFormed (m : Module) : Type 0 where
  pub types : types_formed 0 m.types ≡ true
  pub globals : list_all (global_formed (counts_of m)) m.globals ≡ true
  pub functions : list_all (function_formed (counts_of m)) m.functions ≡ true
