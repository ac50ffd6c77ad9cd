use Rattle.std.proofs.Common.{◌≡◌, [], length}
use Rattle.no_read_rules.specs.Scope.{seen}
use Rattle.no_read_types.specs.Lifting.{lift_all, behind}
use Rattle.no_read_types.proofs.definition.lift_all.Given as goal

abbrev pub invariant-loop-rest : goal.invariant-loop-rest
invariant-loop-rest l = behind l.defined l.kept (lift_all (seen l.scope) l.names l.rest) ≡ lift_all (seen l.scope) [] l.tokens

abbrev pub decreases-loop-rest : goal.decreases-loop-rest
decreases-loop-rest l = length l.rest
