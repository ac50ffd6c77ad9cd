-- The counter of a function: the next number that something without a name is called by. It is kept as its decimal digits,
-- the least first, since a name may be a number of any size.
use Rattle.std.specs.Prelude.{ℕ, ◌+◌, ◌-◌, ◌*◌, ◌^◌, Bool, true, false, List, [], ◌∷◌, ◌==◌, nat_lt, reverse, Option, Some, None, if◌then◌else◌}
use Rattle.no_lex.specs.Spelling.{is_digits, is_integer}
use Rattle.no_read_rules.specs.Numbers.{decimal, is_negative, digits_of}

-- the number that digits spell, the least first
abbrev pub value : List ℕ → ℕ
value [] = 0
value (d ∷ ds) = (d - 48) + 10 * value ds

-- the digits of the number that is one more
abbrev pub next : List ℕ → List ℕ
next [] = 49 ∷ []
next (d ∷ ds) = if nat_lt d 57 then (d + 1) ∷ ds else 48 ∷ next ds

-- the rest of an addition of one: it is still to be added, or it is done
abbrev pub next_where : Bool → List ℕ → List ℕ
next_where true ds = next ds
next_where false ds = ds

-- without the zeros in front
abbrev pub stripped : List ℕ → List ℕ
stripped [] = []
stripped (d ∷ ds) = if d == 48 then stripped ds else d ∷ ds

-- the counter behind a written name: one more than the number that the name spells, if it is one
abbrev pub behind_name : List ℕ → List ℕ → List ℕ
behind_name counter name = if is_digits name then next (reverse (stripped name)) else counter

-- ---- labels that are numbers

-- a number that was read and is not negative; a minus may stand before 0 alone
abbrev pub in_range : Bool → Option ℕ → Bool
in_range negative None = false
in_range negative (Some n) = if negative then n == 0 else true

-- a label that spells an integer lies from 0 to 2^32 - 1
abbrev pub label_fits : List ℕ → Bool
label_fits name = if is_integer name then in_range (is_negative name) (decimal (2 ^ 32 - 1) (digits_of name)) else true
