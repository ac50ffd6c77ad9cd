use Rattle.std.proofs.Common.{◌≡◌, ◌++◌, length}
use Rattle.no_read_rules.specs.Unescaped.{unescaped}
use Rattle.no_read_rules.proofs.names.unescaped.Given as goal

abbrev pub invariant-loop-rest : goal.invariant-loop-rest
invariant-loop-rest l = l.all ++ unescaped l.rest ≡ unescaped l.bytes

abbrev pub decreases-loop-rest : goal.decreases-loop-rest
decreases-loop-rest l = length l.rest
