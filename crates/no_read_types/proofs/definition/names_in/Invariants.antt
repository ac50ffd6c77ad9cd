use Rattle.std.proofs.Common.{◌≡◌, [], length}
use Rattle.no_read_types.specs.Lifting.{names_from}
use Rattle.no_read_types.proofs.definition.names_in.Given as goal

abbrev pub invariant-loop-rest : goal.invariant-loop-rest
invariant-loop-rest l = names_from l.text l.names l.rest ≡ names_from l.text [] l.tokens

abbrev pub decreases-loop-rest : goal.decreases-loop-rest
decreases-loop-rest l = length l.rest
