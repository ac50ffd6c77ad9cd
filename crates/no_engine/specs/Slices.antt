-- What a slice of a run says of the run.
use Rattle.std.specs.Prelude.{ℕ, List, ◌++◌}
use Rattle.no_lib.specs.declared.env.Env.{Env}
use Rattle.no_semantics.specs.Accepted.{Accepted}
use Rattle.no_semantics.specs.Runs.{IsRun, ran_by}
use Rattle.no_engine.specs.Parts.{HasWay}
use Rattle.no_engine.specs.declared.engine.Slice.{Slice}
use Rattle.no_engine.specs.declared.engine.Slice.TheVariants as slice

-- where the run is after a slice, by what that came to: further on, by what `on` says; at its end, by what `over` says, with all its output and its count;
-- or, without memory, some first part of it is done
abbrev pub Came : {E : Type 0} → (E → Env → List ℕ → List ℕ → List ℕ → Type 0) → (E → List ℕ → Type 0) → Accepted → ℕ → ℕ → Slice → E → Env → List ℕ → List ℕ → List ℕ → Type 0
Came on over a count budget slice.Stepped e env more given flushed = on e env more given flushed
Came on over a count budget slice.WantInput e env more given flushed = on e env more given flushed
Came on over a count budget (slice.Ended end) e env more given flushed = IsRun a given budget (ran_by (flushed ++ env.output.items) count end) × over e given
Came on over a count budget slice.NoMemory e env more given flushed = HasWay a budget given (flushed ++ env.output.items) count
