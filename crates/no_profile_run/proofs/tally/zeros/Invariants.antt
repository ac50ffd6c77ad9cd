use Rattle.std.proofs.Common.{◌≡◌, replicate}
use Rattle.no_profile_run.proofs.tally.zeros.Given as goal

abbrev pub invariant-loop : goal.invariant-loop
invariant-loop l = l.stamps.items ≡ replicate l.counter 0
