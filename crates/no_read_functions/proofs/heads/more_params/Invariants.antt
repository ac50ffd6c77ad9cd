use Rattle.std.proofs.Common.{◌≡◌, [], ◌∷◌, codes, length}
use Rattle.no_read_rules.specs.Lists.{more_item}
use Rattle.no_read_rules.specs.Repeated.{repeat_all, with_front}
use Rattle.no_read_rules.specs.Scope.{seen}
use Rattle.no_read_functions.specs.Heads.{a_param}
use Rattle.no_read_functions.proofs.heads.more_params.Given as goal

abbrev pub invariant-loop-all : goal.invariant-loop-all
invariant-loop-all l =
    let step = more_item (seen l.scope).text (codes ")") (a_param (seen l.scope) l.named) in
    with_front l.all (repeat_all step l.locals l.rest) ≡ with_front (l.fn.first ∷ []) (repeat_all step l.fn.locals l.tokens)

abbrev pub decreases-loop-all : goal.decreases-loop-all
decreases-loop-all l = length l.rest
