-- The parts of a data layout string (docs/FORMATS.md, "Data layout strings").
use Rattle.std.specs.Prelude.{ℕ, Bool, true, false, not, ◌&&◌, ◌||◌, nat_le, ◌==◌, if◌then◌else◌, List, [], ◌∷◌, map, codes, Option, Some, None, Result, Ok, Err}
use Rattle.std.specs.Str.{bytes_eq}
use Rattle.std.specs.List.{slice_split, list_any}
use Rattle.no_layout.specs.Field.{field_of, field_at}
use Rattle.no_layout.specs.declared.number.Field.{Field}
use Rattle.no_layout.specs.declared.number.Field.TheVariants.{Absent, Word, Number}
use Rattle.no_layout.specs.declared.part.Part.{Part}
use Rattle.no_layout.specs.declared.part.Part.TheVariants.{Order, Pointer, Integer, Other}
use Rattle.no_layout.specs.declared.fault.LayoutKind.{LayoutKind}
use Rattle.no_layout.specs.declared.fault.LayoutKind.TheVariants.{BadWidth, BadSpec}

-- a power of two from 8 to `most`, in bits
abbrev pub is_alignment : ℕ → ℕ → Bool
is_alignment bits most = list_any (λ power. bits == power) (8 ∷ 16 ∷ 32 ∷ 64 ∷ 128 ∷ 256 ∷ 512 ∷ 1024 ∷ []) && nat_le bits most

-- a part that begins with m, n, S, a, f, v or F, or is A0, P0 or G0
abbrev pub has_no_effect : List ℕ → Bool
has_no_effect [] = false
has_no_effect (c ∷ rest) = list_any (λ d. c == d) (codes "mnSafvF") || (list_any (λ d. c == d) (codes "APG") && bytes_eq rest (codes "0"))

-- ---- pointers

-- whether a field is there and is no number
abbrev pub is_word : Field → Bool
is_word Word = true
is_word _ = false

-- whether a field is not there
abbrev pub is_absent : Field → Bool
is_absent Absent = true
is_absent _ = false

-- whether a field is a number other than the width
abbrev pub differs : ℕ → Field → Bool
differs width (Number n) = not (n == width)
differs width _ = false

-- pointers of a width that is allowed, by the alignment
abbrev pub aligned_pointer : ℕ → Field → Result Part LayoutKind
aligned_pointer width (Number align) = if is_alignment align 64 then Ok (Pointer width align) else Err BadSpec
aligned_pointer width _ = Err BadSpec

-- `p:W:A`, `p:W:A:P` or `p:W:A:P:I` with a width that is allowed: another index width is judged before all else
abbrev pub pointer_of : ℕ → Field → Field → Field → Field → Result Part LayoutKind
pointer_of width align preferred index more =
    if differs width index then Err BadWidth
    else (if is_word index || (is_word preferred || not (is_absent more)) then Err BadSpec
    else aligned_pointer width align)

-- a width that is a number other than 32 and 64 is judged before the other fields
abbrev pub sized_pointer : Field → List Field → Result Part LayoutKind
sized_pointer (Number width) fields =
    if width == 32 || width == 64
    then pointer_of width (field_at 1 fields) (field_at 2 fields) (field_at 3 fields) (field_at 4 fields)
    else Err BadWidth
sized_pointer _ fields = Err BadSpec

-- a part of pointers of address space 0, by its fields
abbrev pub pointer_part : List Field → Result Part LayoutKind
pointer_part fields = sized_pointer (field_at 0 fields) fields

-- the address space that is named, 0 where none is
abbrev pub space_of : List ℕ → Field
space_of [] = Number 0
space_of (b ∷ name) = field_of (b ∷ name)

-- pointers of other address spaces have no effect, whatever follows
abbrev pub in_space : Field → List Field → Result Part LayoutKind
in_space (Number space) fields = if space == 0 then pointer_part fields else Ok Other
in_space _ fields = Err BadSpec

-- ---- integers

-- where a listed type stands among i1, i8, i16, i32 and i64
abbrev pub place_of : ℕ → Option ℕ
place_of bits =
    if bits == 1 then Some 0
    else (if bits == 8 then Some 1
    else (if bits == 16 then Some 2
    else (if bits == 32 then Some 3
    else (if bits == 64 then Some 4
    else None))))

-- a listed type is aligned to 8 to 64 bits; another, to 8 to 1,024, has no effect
abbrev pub placed_integer : Option ℕ → ℕ → Result Part LayoutKind
placed_integer (Some place) align = if is_alignment align 64 then Ok (Integer place align) else Err BadSpec
placed_integer None align = if is_alignment align 1024 then Ok Other else Err BadSpec

-- an integer type of so many bits with an alignment
abbrev pub integer_of : ℕ → ℕ → Result Part LayoutKind
integer_of bits align = placed_integer (place_of bits) align

-- an integer type of so many bits, whose alignment has to be a number
abbrev pub aligned_integer : ℕ → Field → Result Part LayoutKind
aligned_integer bits (Number align) = integer_of bits align
aligned_integer bits _ = Err BadSpec

-- `iN:A` or `iN:A:P`
abbrev pub integer_part : ℕ → List Field → Result Part LayoutKind
integer_part bits fields =
    if is_word (field_at 1 fields) || not (is_absent (field_at 2 fields)) then Err BadSpec
    else aligned_integer bits (field_at 0 fields)

-- a part of integers, whose width has to be a number
abbrev pub of_width : Field → List Field → Result Part LayoutKind
of_width (Number bits) fields = integer_part bits fields
of_width _ fields = Err BadSpec

-- ---- parts

-- a part by what stands before its first colon, and its fields behind it
abbrev pub named_part : List ℕ → List Field → Result Part LayoutKind
named_part [] fields = Err BadSpec
named_part (c ∷ name) fields =
    if c == 112 then in_space (space_of name) fields
    else (if c == 105 then of_width (field_of name) fields
    else Err BadSpec)

-- a part by its strings between the colons
abbrev pub parted : List (List ℕ) → Result Part LayoutKind
parted [] = Err BadSpec
parted (head ∷ fields) = named_part head (map field_of fields)

-- what a part states, or why it is none
abbrev pub part_of : List ℕ → Result Part LayoutKind
part_of piece =
    if bytes_eq piece (codes "E") then Ok (Order true)
    else (if bytes_eq piece (codes "e") then Ok (Order false)
    else (if has_no_effect piece then Ok Other
    else parted (slice_split (λ b. b == 58) piece)))
