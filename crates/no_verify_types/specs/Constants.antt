-- Which constants a type has (LLVM Language Reference, "Constants").
use Rattle.std.specs.Prelude.{ℕ, ◌^◌, Bool, false, ◌&&◌, not, nat_lt, ◌==◌, List, length, Option, Some, None, is_some}
use Rattle.std.specs.List.{list_all}
use Rattle.no_ir.specs.declared.types.Ty.{Ty, out-Ty}
use Rattle.no_ir.specs.declared.types.Ty.TheOpen.{Ty-F}
use Rattle.no_ir.specs.declared.constant.Const.{Const, out-Const}
use Rattle.no_ir.specs.declared.constant.Const.TheOpen.{Const-F}
use Rattle.no_ir.specs.declared.constant.Const.TheFolds.{fold-Const}
use Rattle.no_ir.specs.declared.function.GlobalVar.{GlobalVar}
use Rattle.no_ir.specs.declared.function.Module.{Module}
use Rattle.no_ir.specs.declared.function.Role.{Role}
use Rattle.no_module.specs.declared.scalar.Scalar.{Scalar}
use Rattle.no_module.specs.declared.scalar.Scalar.TheVariants as scalar
use Rattle.no_module.specs.Scalars.{each_meets, is_of, is_pointer, scalar_of, is_void}
use Rattle.no_module.specs.Named.{resolved}
use Rattle.no_verify_types.specs.Addresses.{place_fits}

-- ---- constants of integer types and of ptr

-- an integer type, of which n is a number
abbrev pub is_number_below : ℕ → Scalar → Bool
is_number_below n (scalar.Int w) = nat_lt n (2 ^ w)
is_number_below n scalar.Ptr = false

-- an integer type whose numbers go above n
abbrev pub number_fits : ℕ → Option Scalar → Bool
number_fits n None = false
number_fits n (Some s) = is_number_below n s

-- a type that there is, and that is an integer type
abbrev pub integer_type : Option Scalar → Bool
integer_type None = false
integer_type (Some s) = not (is_pointer s)

-- zero is of each of these types, a number of integer types that have it, an address as a number of integer types, and an address of ptr
abbrev pub value_step : Module → Role → Option Scalar → {A : Type 0} → Const-F A → Bool
value_step m role s Const-F.Zero = is_some s
value_step m role s (Const-F.Int n) = number_fits n s
value_step m role s (Const-F.Address place) = is_of scalar.Ptr s && place_fits m role place
value_step m role s (Const-F.AddressAsInt place) = integer_type s && place_fits m role place
value_step m role s (Const-F.IntAsPtr n) = is_of scalar.Ptr s
value_step m role s _ = false

-- a constant is of this integer type or of ptr; none is of no type
abbrev pub value_fits : Module → Role → Option Scalar → Const → Bool
value_fits m role s c = value_step m role s (out-Const c)

-- ---- constants of all types

-- the outermost layer of a type is i8
abbrev pub byte_step : Ty-F Ty → Bool
byte_step (Ty-F.Int w) = w == 8
byte_step _ = false

-- an array of so many i8
abbrev pub text_fits : ℕ → Ty-F Ty → Bool
text_fits n (Ty-F.Array count element) = n == count && byte_step (out-Ty element)
text_fits n _ = false

-- an array of exactly these elements
abbrev pub elements_fit : List (Ty → Bool) → Ty-F Ty → Bool
elements_fit elements (Ty-F.Array count element) = length elements == count && list_all (λ fits. fits element) elements
elements_fit elements _ = false

-- a struct of exactly these fields
abbrev pub fields_fit : List (Ty → Bool) → Ty-F Ty → Bool
fields_fit fields (Ty-F.Struct packed ts) = each_meets fields ts
fields_fit fields _ = false

-- a zero is of every type but void, a string, a list and a struct of one with just such parts, and all else of integer types or ptr
abbrev pub constant_step : Module → Role → Const-F (Ty → Bool) → Ty → Bool
constant_step m role Const-F.Zero t = not (is_void t)
constant_step m role (Const-F.Str bytes) t = text_fits (length bytes) (out-Ty t)
constant_step m role (Const-F.Array elements) t = elements_fit elements (out-Ty t)
constant_step m role (Const-F.Struct fields) t = fields_fit fields (out-Ty (resolved m.types t))
constant_step m role c t = value_step m role (scalar_of t) c

-- whether a constant is of a type
abbrev pub constant_fits : Module → Role → Const → Ty → Bool
constant_fits m role = fold-Const (Ty → Bool) (constant_step m role)

-- a global's first value is of its type
abbrev pub global_typed : Module → Role → GlobalVar → Bool
global_typed m role g = constant_fits m role g.init g.ty
