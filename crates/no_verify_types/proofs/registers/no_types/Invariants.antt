use Rattle.std.proofs.Common.{◌≡◌, replicate, None}
use Rattle.no_verify_types.proofs.registers.no_types.Given as goal

abbrev pub invariant-loop : goal.invariant-loop
invariant-loop l = l.types.items ≡ replicate l.counter None
