use Rattle.std.proofs.Common.{◌≡◌, replicate}
use Rattle.no_profile_run.specs.Tallied.{nothing}
use Rattle.no_profile_run.proofs.tally.counters_of.Given as goal

abbrev pub invariant-loop : goal.invariant-loop
invariant-loop l = l.counters.items ≡ replicate l.counter nothing
