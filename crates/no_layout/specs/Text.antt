-- What a data layout string states (LLVM Language Reference, "Data Layout"; docs/FORMATS.md, "Data layout strings").
use Rattle.std.specs.Prelude.{ℕ, ◌+◌, Bool, ◌&&◌, ◌||◌, ◌==◌, List, [], ◌∷◌, length, slice_set, Option, Some, None, unwrap_or, Result, Ok, Err}
use Rattle.std.specs.List.{slice_split, list_all}
use Rattle.no_layout.specs.Part.{part_of, is_alignment}
use Rattle.no_layout.specs.declared.part.Part.{Part}
use Rattle.no_layout.specs.declared.part.Part.TheVariants.{Order, Pointer, Integer}
use Rattle.no_layout.specs.declared.fault.LayoutKind.{LayoutKind}
use Rattle.no_layout.specs.declared.fault.LayoutKind.TheVariants.{NoOrder}
use Rattle.no_layout.specs.declared.fault.LayoutFault.{LayoutFault}
use Rattle.no_layout.specs.declared.layout.Layout.{Layout}
use Rattle.no_layout.specs.declared.draft.Draft.{Draft}

-- the strings between the dashes; the empty string has none
abbrev pub pieces : List ℕ → List (List ℕ)
pieces [] = []
pieces (b ∷ text) = slice_split (λ c. c == 45) (b ∷ text)

-- ---- faults

-- the fault of a piece that is no part, or else the one that was found behind it
abbrev pub fault_at : ℕ → Result Part LayoutKind → Option LayoutFault → Option LayoutFault
fault_at at (Ok part) later = later
fault_at at (Err kind) later = Some (record { kind = kind; at = at })

-- the first of these pieces that is no part, and where it begins
abbrev pub first_fault : ℕ → List (List ℕ) → Option LayoutFault
first_fault at [] = None
first_fault at (piece ∷ more) = fault_at at (part_of piece) (first_fault (at + length piece + 1) more)

-- ---- what is stated

-- what the last piece that says something says, or else `unless`
abbrev pub last_said : {A : Type 0} → (Result Part LayoutKind → Option A) → A → List (List ℕ) → A
last_said says unless [] = unless
last_said says unless (piece ∷ more) = last_said says (unwrap_or (says (part_of piece)) unless) more

-- what a part says of the byte order
abbrev pub order_said : Result Part LayoutKind → Option (Option Bool)
order_said (Ok (Order big)) = Some (Some big)
order_said _ = None

-- what a part says of the width of pointers
abbrev pub width_said : Result Part LayoutKind → Option ℕ
width_said (Ok (Pointer width align)) = Some width
width_said _ = None

-- what a part says of the alignment of pointers
abbrev pub align_said : Result Part LayoutKind → Option ℕ
align_said (Ok (Pointer width align)) = Some align
align_said _ = None

-- a part of integers replaces the alignment of its type
abbrev pub replaced : List ℕ → Result Part LayoutKind → List ℕ
replaced aligns (Ok (Integer place align)) = slice_set aligns place align
replaced aligns _ = aligns

-- the alignments of integers after these pieces, where `aligns` were stated before them
abbrev pub aligns_said : List ℕ → List (List ℕ) → List ℕ
aligns_said aligns [] = aligns
aligns_said aligns (piece ∷ more) = aligns_said (replaced aligns (part_of piece)) more

-- what is stated after these pieces, where `before` was stated before them
abbrev pub stated : Draft → List (List ℕ) → Draft
stated before parts = record {
  order = last_said order_said before.order parts;
  pointer = last_said width_said before.pointer parts;
  pointer_align = last_said align_said before.pointer_align parts;
  int_align = aligns_said before.int_align parts;
}

-- what holds where nothing is stated
abbrev pub unstated : Draft
unstated = record { order = None; pointer = 64; pointer_align = 64; int_align = 8 ∷ 8 ∷ 16 ∷ 32 ∷ 32 ∷ [] }

-- ---- the whole string

-- a byte order has to be stated
abbrev pub ordered : Option Bool → Draft → Result Layout LayoutFault
ordered None all = Err (record { kind = NoOrder; at = 0 })
ordered (Some big) all = Ok (record { big = big; pointer = all.pointer; pointer_align = all.pointer_align; int_align = all.int_align })

-- the first fault, or the layout that is stated
abbrev pub judged : Option LayoutFault → Draft → Result Layout LayoutFault
judged (Some fault) all = Err fault
judged None all = ordered all.order all

-- the layout that a string states, or the first thing wrong with it
abbrev pub layout_of : List ℕ → Result Layout LayoutFault
layout_of text = judged (first_fault 0 (pieces text)) (stated unstated (pieces text))

-- ---- what every layout has

-- pointers are of 32 or 64 bits, and alignments are powers of two from 8 to 64 bits
abbrev pub are_formed : ℕ → ℕ → List ℕ → Bool
are_formed pointer pointer_align int_align =
    (pointer == 32 || pointer == 64)
    && (is_alignment pointer_align 64
    && (length int_align == 5
    && list_all (λ align. is_alignment align 64) int_align))

-- a layout as strings state them: pointers are of 32 or 64 bits, alignments are powers of two from 8 to 64 bits
abbrev pub is_formed : Layout → Bool
is_formed layout = are_formed layout.pointer layout.pointer_align layout.int_align
