-- The fields of a part of a data layout string, parted by colons.
use Rattle.std.specs.Prelude.{ℕ, ◌+◌, ◌-◌, ◌*◌, min, Bool, ◌&&◌, nat_le, ◌==◌, if◌then◌else◌, List, [], ◌∷◌, map, length, slice_get, Option, Some, None, unwrap_or}
use Rattle.std.specs.List.{slice_split, list_all, fold}
use Rattle.no_layout.specs.declared.number.Field.{Field}
use Rattle.no_layout.specs.declared.number.Field.TheVariants.{Absent, Word, Number}

-- a decimal digit, as a byte
abbrev pub is_digit : ℕ → Bool
is_digit b = nat_le 48 b && nat_le b 57

-- the number that decimal digits write
abbrev pub value_of : List ℕ → ℕ
value_of = fold (λ n b. 10 * n + (b - 48)) 0

-- what a field says; a number above 65,536 is no width and no alignment, and counts as 65,536
abbrev pub field_of : List ℕ → Field
field_of [] = Word
field_of (b ∷ text) = if list_all is_digit (b ∷ text) then Number (min (value_of (b ∷ text)) 65536) else Word

-- what the field at a place says, the first one at 0
abbrev pub field_at : ℕ → List Field → Field
field_at k fields = unwrap_or (slice_get fields k) Absent

-- the pieces behind a mark, where there is one
abbrev pub pieces_behind : ℕ → Option (List ℕ) → List (List ℕ)
pieces_behind mark None = []
pieces_behind mark (Some text) = slice_split (λ b. b == mark) text

-- how many bytes the mark and what is behind it are
abbrev pub length_behind : Option (List ℕ) → ℕ
length_behind None = 0
length_behind (Some text) = 1 + length text

-- the fields behind a colon, where there is one
abbrev pub fields_of : Option (List ℕ) → List Field
fields_of rest = map field_of (pieces_behind 58 rest)
