use Rattle.std.proofs.Common.{◌≡◌, replicate}
use Rattle.no_machine.proofs.begin.slots_of.Given as goal

abbrev pub invariant-loop : goal.invariant-loop
invariant-loop l = l.slots.items ≡ replicate l.counter 0
