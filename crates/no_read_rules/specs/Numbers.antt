-- Integers of the text.
use Rattle.std.specs.Prelude.{ℕ, ◌+◌, ◌-◌, ◌*◌, ◌^◌, Bool, true, false, ◌&&◌, List, [], ◌∷◌, ◌==◌, nat_le, nat_lt, Option, Some, None, Result, Ok, Err, if◌then◌else◌}
use Rattle.no_read_rules.specs.declared.fault.Flaw.{Flaw}
use Rattle.no_read_rules.specs.declared.fault.Flaw.TheVariants.{Syntax, Number}

-- decimal digits as a number of at most this size, behind a number that was read before
abbrev pub number_from : ℕ → List ℕ → ℕ → Option ℕ
number_from most [] sum = Some sum
number_from most (x ∷ xs) sum =
    if nat_le 48 x && nat_le x 57 && nat_le (10 * sum + (x - 48)) most then number_from most xs (10 * sum + (x - 48)) else None

-- decimal digits as a number of at most this size, where they are one
abbrev pub decimal : ℕ → List ℕ → Option ℕ
decimal most bytes = number_from most bytes 0

-- whether a minus stands in front
abbrev pub is_negative : List ℕ → Bool
is_negative [] = false
is_negative (b ∷ bytes) = b == 45

-- the digits behind an optional minus
abbrev pub digits_of : List ℕ → List ℕ
digits_of [] = []
digits_of (b ∷ bytes) = if b == 45 then bytes else b ∷ bytes

-- a number, with a minus or without, as one below 2^w: it has to lie from -2^(w-1) to 2^w - 1
abbrev pub kept : ℕ → Bool → Option ℕ → Result ℕ Flaw
kept w negative None = Err Number
kept w true (Some n) = if nat_le (2 * n) (2 ^ w) then Ok (if n == 0 then 0 else 2 ^ w - n) else Err Number
kept w false (Some n) = if nat_lt n (2 ^ w) then Ok n else Err Number

-- an integer of a type of so many bits, from -2^(w-1) to 2^w - 1, as a number below 2^w
abbrev pub integer_at : ℕ → List ℕ → Result ℕ Flaw
integer_at w bytes = if nat_lt 0 w && nat_le w 64 then kept w (is_negative bytes) (decimal (2 ^ 64 - 1) (digits_of bytes)) else Err Syntax

-- a count that was read, or a fault of number where it was too large or had other characters
abbrev pub counted : Option ℕ → Result ℕ Flaw
counted None = Err Number
counted (Some n) = Ok n

-- a count of elements, below 2^32, without a minus
abbrev pub count_of : List ℕ → Result ℕ Flaw
count_of bytes = if is_negative bytes then Err Syntax else counted (decimal (2 ^ 32 - 1) bytes)
