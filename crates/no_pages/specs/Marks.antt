-- The pages that the first bytes of a write marked.
use Rattle.std.specs.Prelude.{◌≡◌, ◌<◌, ℕ, Bool}
use Rattle.no_layout.specs.Numbers.{marked}

-- a write of n bytes so far marked the pages of these bytes; none where n is 0
pub record Marks (old new : ℕ → Bool) (at n : ℕ) : Type 0 where
  pub some : 0 < n → new ≡ marked old at n
  pub none : n ≡ 0 → new ≡ old
