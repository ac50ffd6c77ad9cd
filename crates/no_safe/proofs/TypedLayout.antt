-- The pointers of a layout that a string states have 32 bits or more.
use Rattle.std.proofs.Common.{◌≡◌, ℕ, ◌≤◌, Bool, true, false, not, ◌||◌, ◌==◌, if◌then◌else◌, Option, Some, None, unwrap_or, Result, Ok, Err, IfOk, List, [], ◌∷◌, map, codes, bytes_eq, refl, subst, ⊎_elim, arith, eqb-true}
use Rattle.std.proofs.lemmas.Bool.{or_cases}
use Rattle.std.specs.List.{slice_split}
use Rattle.no_layout.specs.Field.{field_of, field_at}
use Rattle.no_layout.specs.declared.number.Field.{Field}
use Rattle.no_layout.specs.declared.number.Field.TheVariants.{Absent, Word, Number}
use Rattle.no_layout.specs.declared.part.Part.{Part}
use Rattle.no_layout.specs.declared.part.Part.TheVariants.{Order, Pointer, Integer, Other}
use Rattle.no_layout.specs.declared.draft.Draft.{Draft}
use Rattle.no_layout.specs.declared.fault.LayoutKind.{LayoutKind}
use Rattle.no_layout.specs.declared.fault.LayoutKind.TheVariants.{BadSpec, BadWidth}
use Rattle.no_layout.specs.declared.fault.LayoutFault.{LayoutFault}
use Rattle.no_layout.specs.declared.layout.Layout.{Layout}
use Rattle.no_layout.specs.Part.{aligned_integer, aligned_pointer, differs, has_no_effect, in_space, is_absent, is_alignment, is_word, named_part, of_width, parted, part_of, place_of, placed_integer, pointer_of, pointer_part, sized_pointer, space_of}
use Rattle.no_layout.specs.Text.{first_fault, judged, last_said, layout_of, ordered, pieces, stated, unstated, width_said}

-- a part of pointers states 32 bits or more
abbrev Wide : Result Part LayoutKind → Type 0
Wide (Ok (Pointer width align)) = 32 ≤ width
Wide _ = Unit {0}

either : (b : Bool) (x y : Result Part LayoutKind) → Wide x → Wide y → Wide (if b then x else y)
either true x y f g = f
either false x y f g = g

where_true : (b : Bool) (x y : Result Part LayoutKind) → (b ≡ true → Wide x) → Wide y → Wide (if b then x else y)
where_true true x y f g = f refl
where_true false x y f g = g

aligned_wide : (width : ℕ) (align : Field) → 32 ≤ width → Wide (aligned_pointer width align)
aligned_wide width (Number n) wide = either (is_alignment n 64) (Ok (Pointer width n)) (Err BadSpec) wide tt
aligned_wide width Absent wide = tt
aligned_wide width Word wide = tt

pointer_wide_at : (width : ℕ) (align preferred index more : Field) → 32 ≤ width → Wide (pointer_of width align preferred index more)
pointer_wide_at width align preferred index more wide =
    either (differs width index) (Err BadWidth) (if is_word index || (is_word preferred || not (is_absent more)) then Err BadSpec else aligned_pointer width align) tt
    (either (is_word index || (is_word preferred || not (is_absent more))) (Err BadSpec) (aligned_pointer width align) tt (aligned_wide width align wide))

allowed : (width : ℕ) → (width == 32 || width == 64) ≡ true → 32 ≤ width
allowed width e = ⊎_elim (λ a. let same = eqb-true width 32 a in omega (arith, same)) (λ b. let same = eqb-true width 64 b in omega (arith, same)) (or_cases (width == 32) (width == 64) e)

sized_wide : (f : Field) (fields : List Field) → Wide (sized_pointer f fields)
sized_wide (Number width) fields =
    where_true (width == 32 || width == 64) (pointer_of width (field_at 1 fields) (field_at 2 fields) (field_at 3 fields) (field_at 4 fields)) (Err BadWidth)
    (λ e. pointer_wide_at width (field_at 1 fields) (field_at 2 fields) (field_at 3 fields) (field_at 4 fields) (allowed width e)) tt
sized_wide Absent fields = tt
sized_wide Word fields = tt

space_wide : (f : Field) (fields : List Field) → Wide (in_space f fields)
space_wide (Number space) fields = either (space == 0) (pointer_part fields) (Ok Other) (sized_wide (field_at 0 fields) fields) tt
space_wide Absent fields = tt
space_wide Word fields = tt

placed_wide : (place : Option ℕ) (align : ℕ) → Wide (placed_integer place align)
placed_wide (Some place) align = either (is_alignment align 64) (Ok (Integer place align)) (Err BadSpec) tt tt
placed_wide None align = either (is_alignment align 1024) (Ok Other) (Err BadSpec) tt tt

integer_wide : (bits : ℕ) (f : Field) → Wide (aligned_integer bits f)
integer_wide bits (Number align) = placed_wide (place_of bits) align
integer_wide bits Absent = tt
integer_wide bits Word = tt

width_wide : (f : Field) (fields : List Field) → Wide (of_width f fields)
width_wide (Number bits) fields = either (is_word (field_at 1 fields) || not (is_absent (field_at 2 fields))) (Err BadSpec) (aligned_integer bits (field_at 0 fields)) tt (integer_wide bits (field_at 0 fields))
width_wide Absent fields = tt
width_wide Word fields = tt

named_wide : (head : List ℕ) (fields : List Field) → Wide (named_part head fields)
named_wide [] fields = tt
named_wide (c ∷ name) fields =
    either (c == 112) (in_space (space_of name) fields) (if c == 105 then of_width (field_of name) fields else Err BadSpec) (space_wide (space_of name) fields)
    (either (c == 105) (of_width (field_of name) fields) (Err BadSpec) (width_wide (field_of name) fields) tt)

parted_wide : (parts : List (List ℕ)) → Wide (parted parts)
parted_wide [] = tt
parted_wide (head ∷ fields) = named_wide head (map field_of fields)

part_wide : (piece : List ℕ) → Wide (part_of piece)
part_wide piece =
    let split = parted (slice_split (λ (b : ℕ). b == 58) piece) in
    let plain = if has_no_effect piece then Ok Other else split in
    either (bytes_eq piece (codes "E")) (Ok (Order true)) (if bytes_eq piece (codes "e") then Ok (Order false) else plain) tt
    (either (bytes_eq piece (codes "e")) (Ok (Order false)) plain tt (either (has_no_effect piece) (Ok Other) split tt (parted_wide (slice_split (λ (b : ℕ). b == 58) piece))))

said_wide : (part : Result Part LayoutKind) (unless : ℕ) → Wide part → 32 ≤ unless → 32 ≤ unwrap_or (width_said part) unless
said_wide (Ok (Pointer width align)) unless wide before = wide
said_wide (Ok (Order big)) unless wide before = before
said_wide (Ok (Integer place align)) unless wide before = before
said_wide (Ok Other) unless wide before = before
said_wide (Err kind) unless wide before = before

last_wide : (unless : ℕ) (parts : List (List ℕ)) → 32 ≤ unless → 32 ≤ last_said width_said unless parts
last_wide unless [] before = before
last_wide unless (piece ∷ more) before = last_wide (unwrap_or (width_said (part_of piece)) unless) more (said_wide (part_of piece) unless (part_wide piece) before)

ordered_wide : (order : Option Bool) (all : Draft) → 32 ≤ all.pointer → IfOk (ordered order all) (λ (l : Layout). 32 ≤ l.pointer)
ordered_wide None all wide = tt
ordered_wide (Some big) all wide = wide

judged_wide : (fault : Option LayoutFault) (all : Draft) → 32 ≤ all.pointer → IfOk (judged fault all) (λ (l : Layout). 32 ≤ l.pointer)
judged_wide (Some fault) all wide = tt
judged_wide None all wide = ordered_wide all.order all wide

pub pointer_wide : (text : List ℕ) (l : Layout) → layout_of text ≡ Ok l → 32 ≤ l.pointer
pointer_wide text l e =
    subst (λ (r : Result Layout LayoutFault). IfOk r (λ (l : Layout). 32 ≤ l.pointer)) e
    (judged_wide (first_fault 0 (pieces text)) (stated unstated (pieces text)) (last_wide 64 (pieces text) (omega arith)))
