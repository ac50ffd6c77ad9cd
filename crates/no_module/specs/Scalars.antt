-- The types of which a register holds a value: integer types and ptr (LLVM Language Reference, "First Class Types").
use Rattle.std.specs.Prelude.{ℕ, Bool, true, false, ◌&&◌, ◌||◌, ◌==◌, if◌then◌else◌, List, [], ◌∷◌, map, Option, Some, None, is_some}
use Rattle.no_ir.specs.declared.types.Ty.{Ty, out-Ty}
use Rattle.no_ir.specs.declared.types.Ty.TheOpen.{Ty-F}
use Rattle.no_module.specs.declared.scalar.Scalar.{Scalar}
use Rattle.no_module.specs.declared.scalar.Scalar.TheVariants as scalar
use Rattle.no_module.specs.Widths.{is_width}

-- the integer type of so many bits, where there is one
abbrev pub integer : ℕ → Option Scalar
integer w = if is_width w then Some (scalar.Int w) else None

-- a type of this form as one of values
abbrev pub scalar_step : Ty-F Ty → Option Scalar
scalar_step (Ty-F.Int w) = integer w
scalar_step Ty-F.Ptr = Some scalar.Ptr
scalar_step _ = None

-- a type as one of values: none for void, arrays, structs and named types
abbrev pub scalar_of : Ty → Option Scalar
scalar_of t = scalar_step (out-Ty t)

-- an integer type or ptr
abbrev pub is_scalar : Ty → Bool
is_scalar t = is_some (scalar_of t)

-- the integer type of so many bits
abbrev pub is_integer : ℕ → Scalar → Bool
is_integer w (scalar.Int v) = w == v
is_integer w scalar.Ptr = false

-- the type ptr
abbrev pub is_pointer : Scalar → Bool
is_pointer (scalar.Int w) = false
is_pointer scalar.Ptr = true

-- two types of values are the same
abbrev pub same_scalar : Scalar → Scalar → Bool
same_scalar (scalar.Int w) s = is_integer w s
same_scalar scalar.Ptr s = is_pointer s

-- whether there is a type, and it is this one
abbrev pub is_of : Scalar → Option Scalar → Bool
is_of s None = false
is_of s (Some t) = same_scalar s t

-- two types that there are, and that are the same: what has no type agrees with nothing
abbrev pub agree : Option Scalar → Option Scalar → Bool
agree None t = false
agree (Some s) t = is_of s t

-- the form of void
abbrev pub void_step : Ty-F Ty → Bool
void_step Ty-F.Void = true
void_step _ = false

-- the type void
abbrev pub is_void : Ty → Bool
is_void t = void_step (out-Ty t)

-- what a function may give: a value, or nothing
abbrev pub is_result : Ty → Bool
is_result t = is_void t || is_scalar t

-- two functions give the same: both nothing, or both a value of one type
abbrev pub same_result : Ty → Ty → Bool
same_result t u = (is_void t && is_void u) || agree (scalar_of t) (scalar_of u)

-- ---- lists of types

-- each test is met at its place, and there are as many
abbrev pub each_meets : {A : Type 0} → List (A → Bool) → List A → Bool
each_meets [] [] = true
each_meets (test ∷ tests) (x ∷ xs) = test x && each_meets tests xs
each_meets _ _ = false

-- a parameter of this type
unfoldable pub is_param : Scalar → ℕ × Ty → Bool
is_param s p = is_of s (scalar_of p.1)

-- parameters of just these types
abbrev pub takes : List Scalar → List (ℕ × Ty) → Bool
takes ss ps = each_meets (map is_param ss) ps
