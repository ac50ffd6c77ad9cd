use Rattle.std.proofs.Common.{◌≡◌, replicate, false}
use Rattle.no_taken.proofs.marks.unset.Given as goal

abbrev pub invariant-loop : goal.invariant-loop
invariant-loop l = l.flags ≡ replicate l.counter false
