-- Widths of integers, numbers of a width, and alignments.
use Rattle.std.specs.Prelude.{ℕ, ◌^◌, Bool, ◌&&◌, ◌||◌, ◌==◌, nat_le, nat_lt}
use Rattle.std.specs.Int.{is_power_of_two}

-- the widths of integers, in bits
abbrev pub is_width : ℕ → Bool
is_width w = w == 1 || (w == 8 || (w == 16 || (w == 32 || w == 64)))

-- a number of w bits
abbrev pub is_below : ℕ → ℕ → Bool
is_below w n = nat_lt n (2 ^ w)

-- a power of two up to 65,536
abbrev pub is_alignment : ℕ → Bool
is_alignment n = is_power_of_two n && nat_le n 65536
