use Rattle.std.proofs.Common.{◌≡◌, length}
use Rattle.no_read_rules.specs.Repeated.{repeat_all, with_front}
use Rattle.no_read_rules.specs.Scope.{seen}
use Rattle.no_read_operations.specs.Flow.{more_case}
use Rattle.no_read_operations.proofs.flow.cases.Given as goal

abbrev pub invariant-loop-all : goal.invariant-loop-all
invariant-loop-all l =
    let step = more_case (seen l.scope) l.width in
    with_front l.all (repeat_all step l.locals l.rest) ≡ repeat_all step l.fn.locals l.tokens

abbrev pub decreases-loop-all : goal.decreases-loop-all
decreases-loop-all l = length l.rest
