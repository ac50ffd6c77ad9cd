-- Sizes, alignments and offsets of types under a layout (LLVM Language Reference, "Data Layout"; docs/FORMATS.md, "Sizes").
use Rattle.std.specs.Prelude.{◌≡◌, ℕ, ◌+◌, ◌*◌, ◌/◌, ◌<◌, max, Bool, true, false, ◌&&◌, ◌||◌, nat_le, nat_lt, ◌==◌, if◌then◌else◌, List, [], ◌∷◌, ◌++◌, map, length, take, slice_get, slice_index, Option, Some, None}
use Rattle.std.specs.List.{fold, list_all}
use Rattle.std.specs.Int.{next_multiple_of}
use Rattle.no_ir.specs.declared.types.Ty.{Ty, out-Ty}
use Rattle.no_ir.specs.declared.types.Ty.TheOpen.{Ty-F}
use Rattle.no_ir.specs.declared.types.Ty.TheFolds.{fold-Ty}
use Rattle.no_layout.specs.declared.layout.Layout.{Layout}
use Rattle.no_layout.specs.declared.extent.Extent.{Extent}

-- the most bytes that a type may have
abbrev pub size_limit : ℕ
size_limit = 0x1000_0000

-- the size and alignment of a type, in bytes, and whether it and each type inside it has at most `size_limit` bytes
pub record Measure : Type 0 where
  pub size : ℕ
  pub align : ℕ
  pub fits : Bool

-- a type of this size, where `inside` says whether the types inside it fit
abbrev pub measure : ℕ → ℕ → Bool → Measure
measure size align inside = record { size = size; align = align; fits = inside && nat_le size size_limit }

-- how far the beginnings of two elements of an array are apart: the size, rounded up to the alignment
abbrev pub stride_of : Measure → ℕ
stride_of m = next_multiple_of m.size m.align

-- ---- integers and pointers

-- how many bytes an integer type takes; a width that no integer has takes none
abbrev pub int_size : ℕ → ℕ
int_size width =
    if width == 1 || width == 8 then 1
    else (if width == 16 then 2
    else (if width == 32 then 4
    else (if width == 64 then 8
    else 0)))

-- the alignment of an integer type in bytes, from the bits that the layout states
abbrev pub int_align : Layout → ℕ → ℕ
int_align l width =
    if width == 1 then slice_index l.int_align 0 / 8
    else (if width == 8 then slice_index l.int_align 1 / 8
    else (if width == 16 then slice_index l.int_align 2 / 8
    else (if width == 32 then slice_index l.int_align 3 / 8
    else (if width == 64 then slice_index l.int_align 4 / 8
    else 1))))

-- ---- structs

-- where the next field begins: packed, at the end of the one before, and otherwise at the next multiple of its alignment
abbrev pub place_after : Bool → ℕ → ℕ → ℕ
place_after packed end align = if packed then end else next_multiple_of end align

-- the fields with one more: where they end, the greatest of their alignments, and whether they all fit
abbrev pub with_field : Bool → Measure → Measure → Measure
with_field packed all field = record {
  size = place_after packed all.size field.align + field.size;
  align = max all.align field.align;
  fits = all.fits && field.fits;
}

-- where no field stands yet: 0 bytes, aligned to 1
abbrev pub no_fields : Measure
no_fields = record { size = 0; align = 1; fits = true }

-- where fields end, the greatest of their alignments, and whether they all fit
abbrev pub fields_of : Bool → List Measure → Measure
fields_of packed = fold (with_field packed) no_fields

-- a packed struct has alignment 1 and no gaps, not even at its end
abbrev pub whole : Bool → Measure → Measure
whole packed all = if packed then measure all.size 1 all.fits else measure (next_multiple_of all.size all.align) all.align all.fits

-- ---- all types

-- a named type, by the numbers of the named types
abbrev pub known : Option Extent → Measure
known (Some e) = measure e.size e.align true
known None = measure 0 1 true

-- the measure of one form of a type, where the types inside it are measured
abbrev pub measure_step : Layout → List Extent → Ty-F Measure → Measure
measure_step l sizes Ty-F.Void = measure 0 1 true
measure_step l sizes (Ty-F.Int width) = measure (int_size width) (int_align l width) true
measure_step l sizes Ty-F.Ptr = measure (l.pointer / 8) (l.pointer_align / 8) true
measure_step l sizes (Ty-F.Array count element) = measure (count * stride_of element) element.align element.fits
measure_step l sizes (Ty-F.Struct packed fields) = whole packed (fields_of packed fields)
measure_step l sizes (Ty-F.Named k) = known (slice_get sizes k)

-- the measure of a type, where `sizes` has the numbers of the named types
abbrev pub measure_of : Layout → List Extent → Ty → Measure
measure_of l sizes = fold-Ty Measure (measure_step l sizes)

-- the size of a type in bytes
abbrev pub type_size : Layout → List Extent → Ty → ℕ
type_size l sizes t = (measure_of l sizes t).size

-- the alignment of a type in bytes
abbrev pub type_align : Layout → List Extent → Ty → ℕ
type_align l sizes t = (measure_of l sizes t).align

-- how far the beginnings of two values of a type are apart in an array, in bytes
abbrev pub type_stride : Layout → List Extent → Ty → ℕ
type_stride l sizes t = stride_of (measure_of l sizes t)

-- a type and each type inside it has at most `size_limit` bytes
abbrev pub Fits : Layout → List Extent → Ty → Type 0
Fits l sizes t = (measure_of l sizes t).fits ≡ true

-- ---- named types

-- the size and the alignment of a measure
abbrev pub extent_of : Measure → Extent
extent_of m = record { size = m.size; align = m.align }

-- the numbers of some named types, with those of the next type behind them
abbrev pub with_type : Layout → List Extent → List ℕ × Ty → List Extent
with_type l before named = before ++ extent_of (measure_of l before named.1) ∷ []

-- the numbers of the named types of a module, each by those of the types before it
abbrev pub sizes_of : Layout → List (List ℕ × Ty) → List Extent
sizes_of l = fold (with_type l) []

-- whether there is a named type k, and it and each type inside it has at most `size_limit` bytes
abbrev pub entry_fits : Layout → List Extent → Option (List ℕ × Ty) → Bool
entry_fits l before None = false
entry_fits l before (Some named) = (measure_of l before named.1).fits

-- whether there is a named type k and it fits, by the numbers of the types before it
abbrev pub fits_at : Layout → List (List ℕ × Ty) → ℕ → Bool
fits_at l types k = entry_fits l (sizes_of l (take k types)) (slice_get types k)

-- all named types fit, and these are their numbers
pub record AreSizes (l : Layout) (types : List (List ℕ × Ty)) (sizes : List Extent) : Type 0 where
  pub numbers : sizes ≡ sizes_of l types
  pub fit : (k : ℕ) → k < length types → fits_at l types k ≡ true

-- named type k is the first that does not fit
pub record IsTooLarge (l : Layout) (types : List (List ℕ × Ty)) (k : ℕ) : Type 0 where
  pub within : k < length types
  pub large : fits_at l types k ≡ false
  pub first : (j : ℕ) → j < k → fits_at l types j ≡ true

-- ---- offsets

-- where a field of a struct begins, behind the fields before it
abbrev pub offset_in : Bool → List Measure → Option Measure → ℕ
offset_in packed before None = 0
offset_in packed before (Some field) = place_after packed (fields_of packed before).size field.align

-- where field k of one form of a type begins; what is no struct has it at 0
abbrev pub offset_step : Layout → List Extent → Ty-F Ty → ℕ → ℕ
offset_step l sizes (Ty-F.Struct packed fields) k = offset_in packed (map (measure_of l sizes) (take k fields)) (slice_get (map (measure_of l sizes) fields) k)
offset_step l sizes _ k = 0

-- where field k of a struct begins, in bytes from the struct's beginning
abbrev pub offset_of : Layout → List Extent → Ty → ℕ → ℕ
offset_of l sizes t k = offset_step l sizes (out-Ty t) k

-- how many fields a struct has
abbrev pub field_count : Ty-F Ty → ℕ
field_count (Ty-F.Struct packed fields) = length fields
field_count _ = 0

-- a type is a struct with a field k
abbrev pub HasField : Ty → ℕ → Type 0
HasField t k = k < field_count (out-Ty t)

-- ---- named types that refer to lower ones alone

-- one form of a type, where it is known whether the named types inside its parts have numbers below k
abbrev pub below_step : ℕ → Ty-F Bool → Bool
below_step k (Ty-F.Array count element) = element
below_step k (Ty-F.Struct packed fields) = list_all (λ field. field) fields
below_step k (Ty-F.Named j) = nat_lt j k
below_step k _ = true

-- whether each named type inside a type has a number below k
abbrev pub names_below : ℕ → Ty → Bool
names_below k = fold-Ty Bool (below_step k)

-- whether a named type, where there is one, refers to numbers below k alone
abbrev pub entry_below : ℕ → Option (List ℕ × Ty) → Bool
entry_below k None = true
entry_below k (Some named) = names_below k named.1

-- each named type refers to lower numbers alone
abbrev pub AreLower : List (List ℕ × Ty) → Type 0
AreLower types = (k : ℕ) → k < length types → entry_below k (slice_get types k) ≡ true

-- the numbers of an entry, where `sizes` has those of the named types
abbrev pub entry_extent : Layout → List Extent → Option (List ℕ × Ty) → Option Extent
entry_extent l sizes None = None
entry_extent l sizes (Some named) = Some (extent_of (measure_of l sizes named.1))
