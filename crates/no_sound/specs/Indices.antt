-- Indices into types: how far they lead, and which lead somewhere (LLVM Language Reference, "getelementptr Instruction").
use Rattle.std.specs.Prelude.{ℕ, ◌+◌, ◌*◌, ◌^◌, Bool, true, false, nat_lt, if◌then◌else◌, List, [], ◌∷◌, slice_get, Option, Some, None}
use Rattle.no_ir.specs.declared.types.Ty.{Ty, out-Ty}
use Rattle.no_ir.specs.declared.types.Ty.TheOpen.{Ty-F}
use Rattle.no_layout.specs.Sizes.{type_stride, offset_of}
use Rattle.no_layout.specs.declared.extent.Extent.{Extent}
use Rattle.no_layout.specs.declared.layout.Layout.{Layout}
pub use Rattle.no_module.specs.Named.{defined, resolved, resolved_step}

-- ---- one index into an array or a struct

-- how far an index leads into one form of a type, in bytes
abbrev pub place_in : Layout → List Extent → Ty → Ty-F Ty → ℕ → ℕ
place_in l sizes t (Ty-F.Array count element) i = i * type_stride l sizes element
place_in l sizes t (Ty-F.Struct packed fields) i = offset_of l sizes t i
place_in l sizes t _ i = 0

-- how far an index leads into a type, in bytes
abbrev pub index_offset : Layout → List Extent → Ty → ℕ → ℕ
index_offset l sizes t i = place_in l sizes t (out-Ty t) i

-- the type of what stands there: any number leads into an array, and that of a field, at most 31 bits, into a struct
abbrev pub part_in : Ty-F Ty → ℕ → Option Ty
part_in (Ty-F.Array count element) i = Some element
part_in (Ty-F.Struct packed fields) i = if nat_lt i (2 ^ 31) then slice_get fields i else None
part_in _ i = None

-- the type of the element or field that an index leads to, where it leads to one
abbrev pub part_of : Ty → ℕ → Option Ty
part_of t i = part_in (out-Ty t) i

-- ---- several indices

-- what is told of a type, where there is one
abbrev pub told_of : {A : Type 0} → A → Option Ty → (Ty → A) → A
told_of other None tell = other
told_of other (Some t) tell = tell t

-- how far the indices after the first lead, each into what stands where the one before leads; one that leads nowhere ends the way
abbrev pub inner_offset : Layout → List Extent → List (List ℕ × Ty) → Ty → List ℕ → ℕ
inner_offset l sizes types t [] = 0
inner_offset l sizes types t (i ∷ others) =
    told_of 0 (part_of (resolved types t) i) (λ u. index_offset l sizes (resolved types t) i + inner_offset l sizes types u others)

-- the first index steps over whole values of the type; indices are numbers of the pointer's width
abbrev pub path_offset : Layout → List Extent → List (List ℕ × Ty) → Ty → List ℕ → ℕ
path_offset l sizes types t [] = 0
path_offset l sizes types t (i ∷ others) = i * type_stride l sizes t + inner_offset l sizes types t others

-- whether each index after the first leads somewhere
abbrev pub inner_leads : List (List ℕ × Ty) → Ty → List ℕ → Bool
inner_leads types t [] = true
inner_leads types t (i ∷ others) = told_of false (part_of (resolved types t) i) (λ u. inner_leads types u others)

-- whether the indices lead somewhere; the first one always does
abbrev pub path_leads : List (List ℕ × Ty) → Ty → List ℕ → Bool
path_leads types t [] = true
path_leads types t (i ∷ others) = inner_leads types t others
