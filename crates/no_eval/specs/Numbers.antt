-- Numbers of w bits, from 0 to 2 ^ w - 1, and the integers that they say when they are read as signed.
use Rattle.std.specs.Prelude.{ℕ, ◌-◌, ◌*◌, ◌^◌, ℤ, pos, ◌-ℤ◌, nat_lt, if◌then◌else◌, unsigned_abs}
use Rattle.std.specs.Int.{int_rem_euclid}

-- a number of w bits read as a signed one: itself below half of 2 ^ w, and less 2 ^ w from there on
abbrev pub signed : ℕ → ℕ → ℤ
signed w a = if nat_lt (2 * a) (2 ^ w) then pos a else pos a -ℤ pos (2 ^ w)

-- the number of w bits that equals z modulo 2 ^ w
abbrev pub modulo : ℕ → ℤ → ℕ
modulo w z = unsigned_abs (int_rem_euclid z (pos (2 ^ w)))

-- the number that reads as the least signed one, -(2 ^ (w - 1))
abbrev pub least : ℕ → ℕ
least w = 2 ^ (w - 1)

-- the number that reads as -1, the greatest of w bits
abbrev pub greatest : ℕ → ℕ
greatest w = 2 ^ w - 1
