-- Sets of 64 registers as words, one for each block.
use Rattle.std.specs.Prelude.{ℕ, Bool, ◌==◌}
use Rattle.std.specs.Int.{bit_at}

-- the set has its member i
unfoldable pub has : ℕ → ℕ → Bool
has word i = bit_at word i == 1
