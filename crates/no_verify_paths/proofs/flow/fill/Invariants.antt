use Rattle.std.proofs.Common.{◌≡◌}
use Rattle.no_verify_paths.proofs.flow.fill.Given as goal

abbrev pub invariant-loop-k : goal.invariant-loop-k
invariant-loop-k l = l.queue.room ≡ l.count
