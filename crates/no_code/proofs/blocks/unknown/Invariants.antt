use Rattle.std.proofs.Common.{◌≡◌, None, replicate}
use Rattle.no_code.proofs.blocks.unknown.Given as goal

abbrev pub invariant-loop : goal.invariant-loop
invariant-loop l = l.table ≡ replicate l.counter None
