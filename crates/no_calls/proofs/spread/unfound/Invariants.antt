use Rattle.std.proofs.Common.{◌≡◌, replicate}
use Rattle.std.specs.Prelude.{None}
use Rattle.no_calls.proofs.spread.unfound.Given as goal

abbrev pub invariant-loop : goal.invariant-loop
invariant-loop l = l.far.items ≡ replicate l.counter None
