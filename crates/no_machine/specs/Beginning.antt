-- How a run begins, and how its slots grow.
use Rattle.std.specs.Prelude.{ℕ, ◌≡◌, ◌++◌, List}
use Rattle.no_machine.specs.declared.state.Core.{Core}

-- nothing but the slots has changed, of which there are more
pub record Grows {M : Type 0} (old new : Core M) : Type 0 where
  pub more : List ℕ
  pub slots : new.slots.items ≡ old.slots.items ++ more
  pub same : new ≡ record old { slots = new.slots }
