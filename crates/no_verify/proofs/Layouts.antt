-- The layout that a string states has a pointer's width of 32 or 64 bits, and alignments that are allowed.
use Rattle.std.proofs.Common.{◌≡◌, ℕ, Bool, true, false, ◌||◌, ◌==◌, not, nat_lt, List, [], ◌∷◌, map, codes, bytes_eq, unwrap_or, if◌then◌else◌, Option, Some, None, Result, Ok, Err, refl, subst}
use Rattle.std.specs.List.{slice_split}
use Rattle.std.proofs.lemmas.Bool.{and_parts, and_from}
use Rattle.no_layout.specs.Field.{field_of, field_at}
use Rattle.no_layout.specs.Part.{is_alignment, has_no_effect, is_word, is_absent, differs, aligned_pointer, pointer_of, sized_pointer, space_of, in_space, place_of, placed_integer, aligned_integer, of_width, named_part, parted, part_of}
use Rattle.no_layout.specs.Stated.{is_sound}
use Rattle.no_layout.specs.Text.{align_said, aligns_said, are_formed, first_fault, is_formed, judged, last_said, layout_of, ordered, pieces, replaced, stated, unstated, width_said}
use Rattle.no_layout.specs.declared.draft.Draft.{Draft}
use Rattle.no_layout.specs.declared.fault.LayoutFault.{LayoutFault}
use Rattle.no_layout.specs.declared.fault.LayoutKind.{LayoutKind}
use Rattle.no_layout.specs.declared.fault.LayoutKind.TheVariants.{BadSpec, BadWidth}
use Rattle.no_layout.specs.declared.layout.Layout.{Layout}
use Rattle.no_layout.specs.declared.number.Field.{Field}
use Rattle.no_layout.specs.declared.number.Field.TheVariants as field
use Rattle.no_layout.specs.declared.part.Part.{Part}
use Rattle.no_layout.specs.declared.part.Part.TheVariants as part
use Rattle.no_layout.proofs.Formed.{formed_set}

-- ---- parts: what one states is allowed

-- a part that is one is allowed
allowed : Result Part LayoutKind → Bool
allowed (Ok p) = is_sound p
allowed (Err k) = true

either : (b : Bool) (x y : Result Part LayoutKind) → allowed x ≡ true → allowed y ≡ true → allowed (if b then x else y) ≡ true
either true x y h k = h
either false x y h k = k

pointer_aligned : (w : ℕ) (f : Field) → (w == 32 || w == 64) ≡ true → allowed (aligned_pointer w f) ≡ true
unfolding allowed
pointer_aligned w (field.Number a) h = go (is_alignment a 64) refl
  where
    go : (b : Bool) → is_alignment a 64 ≡ b → allowed (if b then Ok (part.Pointer w a) else Err BadSpec) ≡ true
    go true e = and_from _ _ h e
    go false e = refl
pointer_aligned w field.Absent h = refl
pointer_aligned w field.Word h = refl

pointer_allowed : (w : ℕ) (align preferred index more : Field) → (w == 32 || w == 64) ≡ true → allowed (pointer_of w align preferred index more) ≡ true
unfolding allowed
pointer_allowed w align preferred index more h =
    either (differs w index) (Err BadWidth) _ refl
    (either (is_word index || (is_word preferred || not (is_absent more))) (Err BadSpec) (aligned_pointer w align) refl (pointer_aligned w align h))

sized_allowed : (f : Field) (fields : List Field) → allowed (sized_pointer f fields) ≡ true
unfolding allowed
sized_allowed (field.Number w) fields = go (w == 32 || w == 64) refl
  where
    go : (b : Bool) → (w == 32 || w == 64) ≡ b
        → allowed (if b then pointer_of w (field_at 1 fields) (field_at 2 fields) (field_at 3 fields) (field_at 4 fields) else Err BadWidth) ≡ true
    go true e = pointer_allowed w (field_at 1 fields) (field_at 2 fields) (field_at 3 fields) (field_at 4 fields) e
    go false e = refl
sized_allowed field.Absent fields = refl
sized_allowed field.Word fields = refl

space_allowed : (f : Field) (fields : List Field) → allowed (in_space f fields) ≡ true
unfolding allowed
space_allowed (field.Number n) fields = either (n == 0) _ (Ok part.Other) (sized_allowed (field_at 0 fields) fields) refl
space_allowed field.Absent fields = refl
space_allowed field.Word fields = refl

-- a place among the five integer types
listed : Option ℕ → Bool
listed None = true
listed (Some place) = nat_lt place 5

either_listed : (b : Bool) (x y : Option ℕ) → listed x ≡ true → listed y ≡ true → listed (if b then x else y) ≡ true
either_listed true x y h k = h
either_listed false x y h k = k

place_listed : (bits : ℕ) → listed (place_of bits) ≡ true
unfolding listed
place_listed bits =
    either_listed (bits == 1) (Some 0) _ refl
    (either_listed (bits == 8) (Some 1) _ refl
    (either_listed (bits == 16) (Some 2) _ refl
    (either_listed (bits == 32) (Some 3) _ refl
    (either_listed (bits == 64) (Some 4) None refl refl))))

placed_allowed : (o : Option ℕ) (a : ℕ) → listed o ≡ true → allowed (placed_integer o a) ≡ true
unfolding allowed listed
placed_allowed (Some place) a h = go (is_alignment a 64) refl
  where
    go : (b : Bool) → is_alignment a 64 ≡ b → allowed (if b then Ok (part.Integer place a) else Err BadSpec) ≡ true
    go true e = and_from _ _ h e
    go false e = refl
placed_allowed None a h = either (is_alignment a 1024) (Ok part.Other) (Err BadSpec) refl refl

integer_aligned : (bits : ℕ) (f : Field) → allowed (aligned_integer bits f) ≡ true
unfolding allowed
integer_aligned bits (field.Number a) = placed_allowed (place_of bits) a (place_listed bits)
integer_aligned bits field.Absent = refl
integer_aligned bits field.Word = refl

width_allowed : (f : Field) (fields : List Field) → allowed (of_width f fields) ≡ true
unfolding allowed
width_allowed (field.Number bits) fields =
    either (is_word (field_at 1 fields) || not (is_absent (field_at 2 fields))) (Err BadSpec) _ refl (integer_aligned bits (field_at 0 fields))
width_allowed field.Absent fields = refl
width_allowed field.Word fields = refl

named_allowed : (name : List ℕ) (fields : List Field) → allowed (named_part name fields) ≡ true
unfolding allowed
named_allowed [] fields = refl
named_allowed (c ∷ name) fields =
    either (c == 112) (in_space (space_of name) fields) _ (space_allowed (space_of name) fields)
    (either (c == 105) (of_width (field_of name) fields) (Err BadSpec) (width_allowed (field_of name) fields) refl)

parted_allowed : (texts : List (List ℕ)) → allowed (parted texts) ≡ true
unfolding allowed
parted_allowed [] = refl
parted_allowed (head ∷ fields) = named_allowed head (map field_of fields)

part_allowed : (piece : List ℕ) → allowed (part_of piece) ≡ true
unfolding allowed
part_allowed piece =
    either (bytes_eq piece (codes "E")) (Ok (part.Order true)) _ refl
    (either (bytes_eq piece (codes "e")) (Ok (part.Order false)) _ refl
    (either (has_no_effect piece) (Ok part.Other) _ refl
    (parted_allowed (slice_split (λ b. b == 58) piece))))

-- ---- all parts

one_more : (r : Result Part LayoutKind) (w a : ℕ) (aligns : List ℕ) → allowed r ≡ true → are_formed w a aligns ≡ true
    → are_formed (unwrap_or (width_said r) w) (unwrap_or (align_said r) a) (replaced aligns r) ≡ true
unfolding allowed
one_more (Ok (part.Order big)) w a aligns ok h = h
one_more (Ok (part.Pointer v b)) w a aligns ok h =
    let allow = and_parts (v == 32 || v == 64) (is_alignment b 64) ok in
    let before = and_parts (w == 32 || w == 64) _ h in
    and_from _ _ allow.0 (and_from _ _ allow.1 (and_parts (is_alignment a 64) _ before.1).1)
one_more (Ok (part.Integer place b)) w a aligns ok h = formed_set w a aligns place b (and_parts (nat_lt place 5) (is_alignment b 64) ok).1 h
one_more (Ok part.Other) w a aligns ok h = h
one_more (Err k) w a aligns ok h = h

all_said : (texts : List (List ℕ)) (w a : ℕ) (aligns : List ℕ) → are_formed w a aligns ≡ true
    → are_formed (last_said width_said w texts) (last_said align_said a texts) (aligns_said aligns texts) ≡ true
all_said [] w a aligns h = h
all_said (piece ∷ more) w a aligns h =
    all_said more (unwrap_or (width_said (part_of piece)) w) (unwrap_or (align_said (part_of piece)) a) (replaced aligns (part_of piece))
    (one_more (part_of piece) w a aligns (part_allowed piece) h)

-- ---- the whole string

ordered_formed : (o : Option Bool) (all : Draft) (l : Layout) → are_formed all.pointer all.pointer_align all.int_align ≡ true → ordered o all ≡ Ok l → is_formed l ≡ true
ordered_formed None all l h e = absurd cc
ordered_formed (Some big) all l h e =
    let is : record { big = big; pointer = all.pointer; pointer_align = all.pointer_align; int_align = all.int_align } ≡ l = cc in
    subst (λ (x : Layout). is_formed x ≡ true) is h

judged_formed : (f : Option LayoutFault) (all : Draft) (l : Layout) → are_formed all.pointer all.pointer_align all.int_align ≡ true → judged f all ≡ Ok l → is_formed l ≡ true
judged_formed None all l h e = ordered_formed all.order all l h e
judged_formed (Some fault) all l h e = absurd cc

pub layout_formed : (text : List ℕ) (l : Layout) → layout_of text ≡ Ok l → is_formed l ≡ true
layout_formed text l e =
    judged_formed (first_fault 0 (pieces text)) (stated unstated (pieces text)) l (all_said (pieces text) 64 64 (8 ∷ 8 ∷ 16 ∷ 32 ∷ 32 ∷ []) refl) e
