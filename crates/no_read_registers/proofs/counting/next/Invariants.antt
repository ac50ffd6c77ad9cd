use Rattle.std.proofs.Common.{◌≡◌, ◌++◌, drop}
use Rattle.no_read_registers.specs.Counting.{next, next_where}
use Rattle.no_read_registers.proofs.counting.next.Given as goal

abbrev pub invariant-loop-digit : goal.invariant-loop-digit
invariant-loop-digit l = l.all ++ next_where l.adds (drop l.digit-index l.digits) ≡ next l.digits
