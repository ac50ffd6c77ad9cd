-- The functions that a module may declare and use, by their names and types (docs/LANGUAGE.md, "Externals").
use Rattle.std.specs.Prelude.{ℕ, Bool, ◌&&◌, ◌||◌, nat_lt, List, [], ◌∷◌, drop, length, bytes_eq, codes, if◌then◌else◌, Option, Some, None, is_some}
use Rattle.no_ir.specs.declared.types.Ty.{Ty}
use Rattle.no_ir.specs.declared.function.Function.{Function}
use Rattle.no_ir.specs.declared.function.Role.{Role}
use Rattle.no_ir.specs.declared.function.Role.TheVariants.{Source, Part}
use Rattle.no_module.specs.declared.scalar.Scalar.{Scalar}
use Rattle.no_module.specs.declared.scalar.Scalar.TheVariants as scalar
use Rattle.no_module.specs.declared.external.External.{External}
use Rattle.no_module.specs.declared.external.External.TheVariants as external
use Rattle.no_module.specs.declared.external.Row.{Row}
use Rattle.no_module.specs.Scalars.{scalar_of, is_of, is_void, takes}
use Rattle.no_module.specs.Functions.{begins_with, is_declared}

-- ---- names

-- functions of the C library
abbrev pub library_named : List ℕ → Option External
library_named name =
    if bytes_eq name (codes "getchar") then Some external.GetChar
    else (if bytes_eq name (codes "putchar") then Some external.PutChar
    else (if bytes_eq name (codes "puts") then Some external.Puts
    else (if bytes_eq name (codes "malloc") then Some external.Malloc
    else (if bytes_eq name (codes "calloc") then Some external.Calloc
    else (if bytes_eq name (codes "free") then Some external.Free
    else (if bytes_eq name (codes "exit") then Some external.Exit
    else (if bytes_eq name (codes "abort") then Some external.Abort
    else None)))))))

-- intrinsics without effect
abbrev pub mark_named : List ℕ → Option External
mark_named name =
    if bytes_eq name (codes "llvm.lifetime.start.p0") then Some external.Hint
    else (if bytes_eq name (codes "llvm.lifetime.end.p0") then Some external.Hint
    else (if bytes_eq name (codes "llvm.assume") then Some external.Hint
    else None))

-- the width that the type at the end of an intrinsic's name says; no intrinsic here has `i1`
abbrev pub width_word : List ℕ → Option ℕ
width_word word =
    if bytes_eq word (codes "i8") then Some 8
    else (if bytes_eq word (codes "i16") then Some 16
    else (if bytes_eq word (codes "i32") then Some 32
    else (if bytes_eq word (codes "i64") then Some 64
    else None)))

-- a width, where it has at least so many bits
abbrev pub at_least : ℕ → Option ℕ → Option ℕ
at_least least None = None
at_least least (Some w) = if nat_lt w least then None else Some w

-- the width of at least so many bits that stands behind the stem of a name
abbrev pub width_behind : ℕ → List ℕ → List ℕ → Option ℕ
width_behind least stem name = if begins_with stem name then at_least least (width_word (drop (length stem) name)) else None

-- an intrinsic on integers of this width, or else another
abbrev pub sized : (ℕ → External) → Option ℕ → Option External → Option External
sized make None other = other
sized make (Some w) other = Some (make w)

-- intrinsics on integers
abbrev pub integer_named : List ℕ → Option External
integer_named name =
    sized external.Swap (width_behind 16 (codes "llvm.bswap.") name)
    (sized external.UMin (width_behind 8 (codes "llvm.umin.") name)
    (sized external.UMax (width_behind 8 (codes "llvm.umax.") name)
    (sized external.SMin (width_behind 8 (codes "llvm.smin.") name)
    (sized external.SMax (width_behind 8 (codes "llvm.smax.") name)
    None))))

-- what a server's part has instead of the device's stack and functions
abbrev pub helper_named : Role → List ℕ → Option External
helper_named Source name = None
helper_named Part name =
    if bytes_eq name (codes "no.alloca") then Some external.Alloca
    else (if bytes_eq name (codes "no.map") then Some external.Map
    else None)

-- an intrinsic on memory with a length of this width, or else another
abbrev pub ranged : External → Option ℕ → Option Row → Option Row
ranged e None other = other
ranged e (Some w) other = Some (record { external = e; length = w })

-- intrinsics on memory
abbrev pub memory_named : List ℕ → Option Row
memory_named name =
    ranged external.Move (width_behind 32 (codes "llvm.memcpy.p0.p0.") name)
    (ranged external.Move (width_behind 32 (codes "llvm.memmove.p0.p0.") name)
    (ranged external.Set (width_behind 32 (codes "llvm.memset.p0.") name)
    None))

-- the first external, or the other where there is none
abbrev pub or_else : Option External → Option External → Option External
or_else None other = other
or_else (Some e) other = Some e

-- all but those on memory
abbrev pub other_named : Role → List ℕ → Option External
other_named role name = or_else (library_named name) (or_else (mark_named name) (or_else (integer_named name) (helper_named role name)))

-- the row of an external without a length
abbrev pub plain_row : Option External → Option Row
plain_row None = None
plain_row (Some e) = Some (record { external = e; length = 0 })

-- the row of an external on memory, or else that of another
abbrev pub or_plain : Option Row → Option External → Option Row
or_plain (Some row) other = Some row
or_plain None other = plain_row other

-- the row of a name
abbrev pub row_named : Role → List ℕ → Option Row
row_named role name = or_plain (memory_named name) (other_named role name)

-- the external of a row
abbrev pub external_in : Option Row → Option External
external_in None = None
external_in (Some row) = Some row.external

-- the external of a name
abbrev pub external_named : Role → List ℕ → Option External
external_named role name = external_in (row_named role name)

-- ---- types

-- a result is of this type
abbrev pub gives : Scalar → Ty → Bool
gives s t = is_of s (scalar_of t)

-- two numbers of w bits give a third
abbrev pub pairs_up : ℕ → Ty → List (ℕ × Ty) → Bool
pairs_up w t ps = gives (scalar.Int w) t && takes (scalar.Int w ∷ scalar.Int w ∷ []) ps

-- result and parameters of each, with the width of a length
abbrev pub has_type : External → ℕ → Ty → List (ℕ × Ty) → Bool
has_type external.GetChar n t ps = gives (scalar.Int 32) t && takes [] ps
has_type external.PutChar n t ps = gives (scalar.Int 32) t && takes (scalar.Int 32 ∷ []) ps
has_type external.Puts n t ps = gives (scalar.Int 32) t && takes (scalar.Ptr ∷ []) ps
has_type external.Malloc n t ps = gives scalar.Ptr t && (takes (scalar.Int 32 ∷ []) ps || takes (scalar.Int 64 ∷ []) ps)
has_type external.Calloc n t ps = gives scalar.Ptr t && (takes (scalar.Int 32 ∷ scalar.Int 32 ∷ []) ps || takes (scalar.Int 64 ∷ scalar.Int 64 ∷ []) ps)
has_type external.Free n t ps = is_void t && takes (scalar.Ptr ∷ []) ps
has_type external.Exit n t ps = is_void t && takes (scalar.Int 32 ∷ []) ps
has_type external.Abort n t ps = is_void t && takes [] ps
has_type external.Move n t ps = is_void t && takes (scalar.Ptr ∷ scalar.Ptr ∷ scalar.Int n ∷ scalar.Int 1 ∷ []) ps
has_type external.Set n t ps = is_void t && takes (scalar.Ptr ∷ scalar.Int 8 ∷ scalar.Int n ∷ scalar.Int 1 ∷ []) ps
has_type (external.Swap w) n t ps = gives (scalar.Int w) t && takes (scalar.Int w ∷ []) ps
has_type (external.UMin w) n t ps = pairs_up w t ps
has_type (external.UMax w) n t ps = pairs_up w t ps
has_type (external.SMin w) n t ps = pairs_up w t ps
has_type (external.SMax w) n t ps = pairs_up w t ps
has_type external.Hint n t ps = is_void t
has_type external.Alloca n t ps = gives scalar.Ptr t && takes (scalar.Int 64 ∷ scalar.Int 64 ∷ scalar.Int 64 ∷ []) ps
has_type external.Map n t ps = gives scalar.Ptr t && takes (scalar.Ptr ∷ []) ps

-- the external of a row, where result and parameters are those that it has
abbrev pub typed_row : Option Row → Ty → List (ℕ × Ty) → Option External
typed_row None t ps = None
typed_row (Some row) t ps = if has_type row.external row.length t ps then Some row.external else None

-- the external that has this name, result and parameters
abbrev pub external_typed : Role → List ℕ → Ty → List (ℕ × Ty) → Option External
external_typed role name t ps = typed_row (row_named role name) t ps

-- whether a module may declare and use a function of this name, result and parameters
abbrev pub is_external : Role → List ℕ → Ty → List (ℕ × Ty) → Bool
is_external role name t ps = is_some (external_typed role name t ps)

-- ---- functions

-- the external that a declared function is by its name
abbrev pub declared_external : Role → Function → Option External
declared_external role f = if is_declared f then external_named role f.name else None

-- the external that a function is: a declared one with the name, result and parameters of a row
abbrev pub external_of : Role → Function → Option External
external_of role f = if is_declared f then external_typed role f.name f.result f.params else None
