-- What a named type stands for (LLVM Language Reference, "Structure Types").
use Rattle.std.specs.Prelude.{ℕ, List, Option, Some, None, slice_get}
use Rattle.no_ir.specs.declared.types.Ty.{Ty, out-Ty}
use Rattle.no_ir.specs.declared.types.Ty.TheOpen.{Ty-F}

-- the definition of a named type, where there is one, and else the type itself
abbrev pub defined : Ty → Option (List ℕ × Ty) → Ty
defined t None = t
defined t (Some named) = named.1

-- what a type of this form stands for
abbrev pub resolved_step : List (List ℕ × Ty) → Ty → Ty-F Ty → Ty
resolved_step types t (Ty-F.Named k) = defined t (slice_get types k)
resolved_step types t _ = t

-- a named type stands for its definition, and any other type for itself
abbrev pub resolved : List (List ℕ × Ty) → Ty → Ty
resolved types t = resolved_step types t (out-Ty t)
