-- How a loop over the parts of a data layout string keeps what they state.
use Rattle.std.specs.Prelude.{ℕ, Bool, true, ◌&&◌, ◌||◌, nat_lt, ◌==◌, List, slice_set, Some, Result}
use Rattle.no_layout.specs.Part.{is_alignment}
use Rattle.no_layout.specs.Text.{first_fault, stated, judged}
use Rattle.no_layout.specs.declared.fault.LayoutFault.{LayoutFault}
use Rattle.no_layout.specs.declared.layout.Layout.{Layout}
use Rattle.no_layout.specs.declared.part.Part.{Part}
use Rattle.no_layout.specs.declared.part.Part.TheVariants.{Order, Pointer, Integer, Other}
use Rattle.no_layout.specs.declared.draft.Draft.{Draft}

-- widths, places and alignments of a part are those that are allowed
abbrev pub is_sound : Part → Bool
is_sound (Order big) = true
is_sound (Pointer width align) = (width == 32 || width == 64) && is_alignment align 64
is_sound (Integer place align) = nat_lt place 5 && is_alignment align 64
is_sound Other = true

-- a part's statement replaces an earlier one
abbrev pub with_part : Part → Draft → Draft
with_part (Order big) all = record all { order = Some big }
with_part (Pointer width align) all = record all { pointer = width; pointer_align = align }
with_part (Integer place align) all = record all { int_align = slice_set all.int_align place align }
with_part Other all = all

-- what a string says of which these pieces are left, the first of them at this place, after others that state `all`
abbrev pub left : ℕ → Draft → List (List ℕ) → Result Layout LayoutFault
left at all parts = judged (first_fault at parts) (stated all parts)
