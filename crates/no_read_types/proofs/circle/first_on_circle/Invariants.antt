use Rattle.std.proofs.Common.{ℕ, ◌<◌}
use Rattle.no_read_types.specs.Graph.{OnCircle}
use Rattle.no_read_types.proofs.circle.first_on_circle.Given as goal

abbrev pub invariant-loop-n : goal.invariant-loop-n
invariant-loop-n l = (m : ℕ) → m < l.n → OnCircle l.graph m → ⊥
