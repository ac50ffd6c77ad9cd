-- The type of a call or of a function as a list of bytes: one for the result, and one for each argument or parameter.
use Rattle.std.specs.Prelude.{◌≡◌, ℕ, ◌+◌, ◌<◌, ◌≤◌, Bool, true, false, ◌&&◌, not, nat_eq, nat_lt, bytes_eq, if◌then◌else◌, List, [], ◌∷◌, length, map, position, Option, Some, None, slice_get, slice_index_or}
use Rattle.std.specs.List.{flat_map, list_any}
use Rattle.no_ir.specs.declared.types.Ty.{Ty}
use Rattle.no_ir.specs.declared.instruction.Operand.{Operand}
use Rattle.no_ir.specs.declared.instruction.Op.{Op}
use Rattle.no_ir.specs.declared.instruction.Op.TheVariants as op
use Rattle.no_ir.specs.declared.instruction.Instr.{Instr}
use Rattle.no_ir.specs.declared.function.Function.{Function}
use Rattle.no_ir.specs.Naming.{is_known}
use Rattle.no_module.specs.declared.scalar.Scalar.{Scalar}
use Rattle.no_module.specs.declared.scalar.Scalar.TheVariants as scalar
use Rattle.no_module.specs.Scalars.{is_void, scalar_of}
use Rattle.no_verify_types.specs.Typing.{direct}
use Rattle.no_calls.specs.Calling.{instrs_of}

-- ---- codes: the width of an integer, and below the smallest width or between the smallest two those of what is none

-- the code of what is no type of values
abbrev pub no_code : ℕ
no_code = 3

-- the code of a type of values, if there is one: the width of an integer, and 0 of a pointer
abbrev pub scalar_code : Option Scalar → ℕ
scalar_code None = no_code
scalar_code (Some scalar.Ptr) = 0
scalar_code (Some (scalar.Int w)) = w

-- the code of an argument's or a parameter's type
abbrev pub type_code : Ty → ℕ
type_code t = scalar_code (scalar_of t)

-- the code of a result's type, which may be void
abbrev pub result_code : Ty → ℕ
result_code t = if is_void t then 2 else type_code t

-- ---- shapes

-- the shape of a call that gives this type and passes these arguments
abbrev pub call_shape : Ty → List (Ty × Operand) → List ℕ
call_shape t args = result_code t ∷ map (λ (a : Ty × Operand). type_code a.0) args

-- the shape of a function, by its result and its parameters
abbrev pub function_shape : Function → List ℕ
function_shape g = result_code g.result ∷ map (λ (p : ℕ × Ty). type_code p.1) g.params

-- each type is one of values
abbrev pub is_proper : List ℕ → Bool
is_proper shape = not (list_any (nat_eq no_code) shape)

-- ---- sets: one for each of n functions, and behind these one for each shape

-- the set of the shape at a place, where there is a place
abbrev pub place_set : ℕ → Option ℕ → List ℕ
place_set n None = []
place_set n (Some c) = (n + c) ∷ []

-- the set of a shape, where it is among these
abbrev pub shape_set : ℕ → List (List ℕ) → List ℕ → List ℕ
shape_set n shapes shape = place_set n (position (bytes_eq shape) shapes)

-- the sets that a function is in: its own, and where its address is taken that of its shape
abbrev pub sets_of : ℕ → List (List ℕ) → Bool → ℕ → Function → List ℕ
sets_of n shapes taken k g = k ∷ (if taken && is_proper (function_shape g) then shape_set n shapes (function_shape g) else [])

-- the sets that a call uses: that of the function whose bare name it states, and through a pointer that of its shape
abbrev pub callee_sets : ℕ → List (List ℕ) → Ty → List (Ty × Operand) → Option ℕ → List ℕ
callee_sets n shapes t args (Some k) = if nat_lt k n then k ∷ [] else []
callee_sets n shapes t args None = shape_set n shapes (call_shape t args)

-- the sets that an instruction uses, none where it is no call
abbrev pub op_sets : ℕ → List (List ℕ) → Op → List ℕ
op_sets n shapes (op.Call t callee args) = callee_sets n shapes t args (direct callee)
op_sets n shapes o = []

-- the sets that the instructions of a function use, in order
abbrev pub called_sets : ℕ → List (List ℕ) → Function → List ℕ
called_sets n shapes f = flat_map (λ (i : Instr). op_sets n shapes i.op) (instrs_of f)

-- the shapes of all functions below n whose address is taken are there
abbrev pub HasShapes : List Function → List Bool → ℕ → List (List ℕ) → Type 0
HasShapes functions taken n shapes =
    (k : ℕ) (g : Function) → k < n → slice_get functions k ≡ Some g → slice_index_or taken k false ≡ true → is_proper (function_shape g) ≡ true → is_known shapes (function_shape g) ≡ true

-- the shape of a function whose address is taken is there beside those that were
pub record ShapeAdded (g : Function) (taken : Bool) (old new : List (List ℕ)) : Type 0 where
  pub kept : (shape : List ℕ) → is_known old shape ≡ true → is_known new shape ≡ true
  pub there : taken ≡ true → is_proper (function_shape g) ≡ true → is_known new (function_shape g) ≡ true
  pub few : length new ≤ length old + 1
