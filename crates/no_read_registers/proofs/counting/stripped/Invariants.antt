use Rattle.std.proofs.Common.{◌≡◌, length}
use Rattle.no_read_registers.specs.Counting.{stripped}
use Rattle.no_read_registers.proofs.counting.stripped.Given as goal

abbrev pub invariant-loop-rest : goal.invariant-loop-rest
invariant-loop-rest l = stripped l.rest ≡ stripped l.digits

abbrev pub decreases-loop-rest : goal.decreases-loop-rest
decreases-loop-rest l = length l.rest
