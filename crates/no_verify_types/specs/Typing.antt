-- Which types operands and results must have (LLVM Language Reference, "Instruction Reference"; docs/LANGUAGE.md, "Instructions").
use Rattle.std.specs.Prelude.{ℕ, ◌-◌, ◌^◌, Bool, true, false, ◌&&◌, ◌||◌, not, nat_lt, nat_le, nat_eq, ◌==◌, if◌then◌else◌, List, [], ◌∷◌, length, map, slice_get, Option, Some, None, is_some}
use Rattle.std.specs.Int.{is_power_of_two}
use Rattle.std.specs.List.{list_all, list_any}
use Rattle.no_ir.specs.declared.types.Ty.{Ty}
use Rattle.no_ir.specs.declared.constant.Const.{out-Const}
use Rattle.no_ir.specs.declared.constant.Const.TheOpen.{Const-F}
use Rattle.no_ir.specs.declared.constant.Symbol.{Symbol}
use Rattle.no_ir.specs.declared.constant.Symbol.TheVariants as symbol
use Rattle.no_ir.specs.declared.instruction.CastOp.{CastOp}
use Rattle.no_ir.specs.declared.instruction.CastOp.TheVariants as cast
use Rattle.no_ir.specs.declared.instruction.Operand.{Operand}
use Rattle.no_ir.specs.declared.instruction.Operand.TheVariants as operand
use Rattle.no_ir.specs.declared.instruction.Op.{Op}
use Rattle.no_ir.specs.declared.instruction.Op.TheVariants as op
use Rattle.no_ir.specs.declared.function.Function.{Function}
use Rattle.no_ir.specs.declared.function.Module.{Module}
use Rattle.no_ir.specs.declared.function.Role.{Role}
use Rattle.no_module.specs.declared.scalar.Scalar.{Scalar}
use Rattle.no_module.specs.declared.scalar.Scalar.TheVariants as scalar
use Rattle.no_module.specs.declared.external.External.{External}
use Rattle.no_module.specs.declared.external.External.TheVariants as external
use Rattle.no_module.specs.Scalars.{each_meets, integer, scalar_of, is_scalar, is_pointer, agree, is_void, is_result, same_result}
use Rattle.no_verify_types.specs.Addresses.{field_below, indices_lead}
use Rattle.no_verify_types.specs.Constants.{value_fits}
use Rattle.no_module.specs.Externals.{declared_external}
use Rattle.no_module.specs.Functions.{is_declared}
use Rattle.no_module.specs.Widths.{is_alignment}
use Rattle.no_verify_types.specs.Registers.{type_at}

-- ---- operands

-- an operand is of a type: a register of just this type, or a constant of it; nothing is of no type
abbrev pub operand_fits : Module → Role → List (Option Scalar) → Option Scalar → Operand → Bool
operand_fits m role types s (operand.Reg r) = agree s (type_at types r)
operand_fits m role types s (operand.Const c) = value_fits m role s c

-- an operand with its type
abbrev pub argument_fits : Module → Role → List (Option Scalar) → Ty × Operand → Bool
argument_fits m role types x = operand_fits m role types (scalar_of x.0) x.1

-- an operand with its width
abbrev pub integer_fits : Module → Role → List (Option Scalar) → ℕ × Operand → Bool
integer_fits m role types x = operand_fits m role types (integer x.0) x.1

-- the number that a constant states, none where it is no integer
abbrev pub number_step : {A : Type 0} → Const-F A → Option ℕ
number_step (Const-F.Int n) = Some n
number_step _ = None

-- the number that is written as an operand
abbrev pub number_of : Operand → Option ℕ
number_of (operand.Reg r) = None
number_of (operand.Const c) = number_step (out-Const c)

-- an operand is written as a number
abbrev pub is_number : Operand → Bool
is_number o = is_some (number_of o)

-- ---- conversions: the types that each goes between

-- from an integer type to one of fewer bits
abbrev pub narrows : Scalar → Scalar → Bool
narrows (scalar.Int v) (scalar.Int w) = nat_lt w v
narrows _ _ = false

-- a conversion takes a value of type s and gives one of type t
abbrev pub goes_between : CastOp → Scalar → Scalar → Bool
goes_between cast.Trunc s t = narrows s t
goes_between cast.ZExt s t = narrows t s
goes_between cast.SExt s t = narrows t s
goes_between cast.PtrToInt s t = is_pointer s && not (is_pointer t)
goes_between cast.IntToPtr s t = not (is_pointer s) && is_pointer t
goes_between cast.BitCast s t = is_pointer s && is_pointer t

-- a conversion goes between two types, both of which registers hold
abbrev pub converts : CastOp → Option Scalar → Option Scalar → Bool
converts o (Some s) (Some t) = goes_between o s t
converts o _ _ = false

-- ---- indices of an instruction: the number of a field is a constant i32

-- the number of a field, where one is written that a signed index of 32 bits can state
abbrev pub field_in : Option ℕ → Option ℕ
field_in None = None
field_in (Some n) = field_below n

-- the number of a field that an index of an instruction states: a constant i32
abbrev pub stated_field : ℕ × Operand → Option ℕ
stated_field index = if index.0 == 32 then field_in (number_of index.1) else None

-- ---- calls

-- function k, where no indices follow its name
abbrev pub bare_function : Symbol → ℕ → Option ℕ
bare_function (symbol.Function k) indices = if indices == 0 then Some k else None
bare_function _ indices = None

-- the function whose bare name a constant is
abbrev pub named_step : {A : Type 0} → Const-F A → Option ℕ
named_step (Const-F.Address place) = bare_function place.symbol (length place.indices)
named_step _ = None

-- the function that a callee names: a bare name alone calls it directly, and all else is called through a pointer
abbrev pub direct : Operand → Option ℕ
direct (operand.Reg r) = None
direct (operand.Const c) = named_step (out-Const c)

-- an argument has the type of a parameter
unfoldable pub is_passed : Ty × Operand → ℕ × Ty → Bool
is_passed arg param = agree (scalar_of arg.0) (scalar_of param.1)

-- the arguments have the types of the parameters
abbrev pub args_match : List (Ty × Operand) → List (ℕ × Ty) → Bool
args_match args params = each_meets (map is_passed args) params

-- an argument that there is, and that is written as a number
abbrev pub is_stated : Option (Ty × Operand) → Bool
is_stated None = false
is_stated (Some arg) = is_number arg.1

-- a number that there is, and that is an alignment
abbrev pub aligns : Option ℕ → Bool
aligns None = false
aligns (Some n) = is_alignment n

-- an argument that there is, and that is written as an alignment
abbrev pub is_aligned : Option (Ty × Operand) → Bool
is_aligned None = false
is_aligned (Some arg) = aligns (number_of arg.1)

-- what has to be written as a number: the last argument of a memory intrinsic, which says whether it is volatile, and size and alignment of `no.alloca`, behind its count
abbrev pub numbers_stated : Option External → List (Ty × Operand) → Bool
numbers_stated (Some external.Move) args = is_stated (slice_get args (length args - 1))
numbers_stated (Some external.Set) args = is_stated (slice_get args (length args - 1))
numbers_stated (Some external.Alloca) args = is_stated (slice_get args 1) && is_aligned (slice_get args 2)
numbers_stated _ args = true

-- a call of a function by its name
abbrev pub calls : Role → Ty → List (Ty × Operand) → Option Function → Bool
calls role t args None = false
calls role t args (Some g) = same_result t g.result && (args_match args g.params && numbers_stated (declared_external role g) args)

-- a function that is called directly fits the call, and any other callee is a ptr
abbrev pub callee_fits : Module → Role → List (Option Scalar) → Ty → Operand → List (Ty × Operand) → Option ℕ → Bool
callee_fits m role types t callee args None = operand_fits m role types (Some scalar.Ptr) callee
callee_fits m role types t callee args (Some k) = calls role t args (slice_get m.functions k)

-- ---- switches and returns

-- no number comes twice
abbrev pub all_differ : List ℕ → Bool
all_differ [] = true
all_differ (n ∷ more) = not (list_any (nat_eq n) more) && all_differ more

-- the numbers of a switch's cases, in order
abbrev pub case_numbers : List (ℕ × ℕ) → List ℕ
case_numbers cases = map (λ c. c.0) cases

-- the cases are numbers of w bits that differ
abbrev pub cases_fit : ℕ → List ℕ → Bool
cases_fit w numbers = list_all (λ n. nat_lt n (2 ^ w)) numbers && all_differ numbers

-- what is returned is what the function gives
abbrev pub returns : Module → Role → List (Option Scalar) → Ty → Option (Ty × Operand) → Bool
returns m role types result None = is_void result
returns m role types result (Some x) = agree (scalar_of x.0) (scalar_of result) && argument_fits m role types x

-- a stated count of an alloca is of its width; one that isn't stated fits
abbrev pub count_fits : Module → Role → List (Option Scalar) → Option (ℕ × Operand) → Bool
count_fits m role types None = true
count_fits m role types (Some count) = integer_fits m role types count

-- ---- instructions, in a function that gives `result` and has registers of these types

-- two operands are of one type
abbrev pub both_fit : Module → Role → List (Option Scalar) → Option Scalar → Operand → Operand → Bool
both_fit m role types s a b = operand_fits m role types s a && operand_fits m role types s b

-- "Conversion Operations"
abbrev pub cast_typed : Module → Role → List (Option Scalar) → CastOp → Ty → Operand → Ty → Bool
cast_typed m role types o t a u = converts o (scalar_of t) (scalar_of u) && operand_fits m role types (scalar_of t) a

-- "select Instruction"
abbrev pub select_typed : Module → Role → List (Option Scalar) → Operand → Ty → Operand → Operand → Bool
select_typed m role types c t a b = operand_fits m role types (integer 1) c && both_fit m role types (scalar_of t) a b

-- "phi Instruction"
abbrev pub phi_typed : Module → Role → List (Option Scalar) → Ty → List (Operand × ℕ) → Bool
phi_typed m role types t pairs = is_scalar t && list_all (λ pair. operand_fits m role types (scalar_of t) pair.0) pairs

-- "load Instruction"
abbrev pub load_typed : Module → Role → List (Option Scalar) → Ty → Operand → Bool
load_typed m role types t a = is_scalar t && operand_fits m role types (Some scalar.Ptr) a

-- "store Instruction"
abbrev pub store_typed : Module → Role → List (Option Scalar) → Ty → Operand → Operand → Bool
store_typed m role types t v a = operand_fits m role types (scalar_of t) v && operand_fits m role types (Some scalar.Ptr) a

-- "getelementptr Instruction"
abbrev pub gep_typed : Module → Role → List (Option Scalar) → Ty → Operand → List (ℕ × Operand) → Bool
gep_typed m role types t a indices =
    operand_fits m role types (Some scalar.Ptr) a && (list_all (integer_fits m role types) indices && indices_lead m.types t (map stated_field indices))

-- "call Instruction"
abbrev pub call_typed : Module → Role → List (Option Scalar) → Ty → Operand → List (Ty × Operand) → Bool
call_typed m role types t callee args = is_result t && (list_all (argument_fits m role types) args && callee_fits m role types t callee args (direct callee))

-- "switch Instruction"
abbrev pub switch_typed : Module → Role → List (Option Scalar) → ℕ → Operand → List (ℕ × ℕ) → Bool
switch_typed m role types w a cases = operand_fits m role types (integer w) a && cases_fit w (case_numbers cases)

-- the operands of an instruction have the types that its row asks for
unfoldable pub op_typed : Module → Role → Ty → List (Option Scalar) → Op → Bool
op_typed m role result types (op.Binary o w a b) = both_fit m role types (integer w) a b
op_typed m role result types (op.Compare p t a b) = both_fit m role types (scalar_of t) a b
op_typed m role result types (op.Cast o t a u) = cast_typed m role types o t a u
op_typed m role result types (op.Freeze t a) = operand_fits m role types (scalar_of t) a
op_typed m role result types (op.Select c t a b) = select_typed m role types c t a b
op_typed m role result types (op.Phi t pairs) = phi_typed m role types t pairs
op_typed m role result types (op.Alloca t count align) = count_fits m role types count
op_typed m role result types (op.Load volatile t a) = load_typed m role types t a
op_typed m role result types (op.Store volatile t v a) = store_typed m role types t v a
op_typed m role result types (op.Gep t a indices) = gep_typed m role types t a indices
op_typed m role result types (op.Call t callee args) = call_typed m role types t callee args
op_typed m role result types (op.Br l) = true
op_typed m role result types (op.CondBr c l k) = operand_fits m role types (integer 1) c
op_typed m role result types (op.Switch w a l cases) = switch_typed m role types w a cases
op_typed m role result types (op.Ret x) = returns m role types result x
op_typed m role result types op.Unreachable = true

-- ---- functions: a defined one takes values, and gives a value or nothing

-- a function takes values alone and gives a value or nothing; a declared one is judged as an external
abbrev pub head_typed : Function → Bool
head_typed f = is_declared f || (is_result f.result && list_all (λ p. is_scalar p.1) f.params)
