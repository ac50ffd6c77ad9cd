use Rattle.std.proofs.Common.{◌≡◌, [], ◌∷◌, codes, length}
use Rattle.no_read_rules.specs.Lists.{more_item}
use Rattle.no_read_rules.specs.Repeated.{repeat_all, with_front}
use Rattle.no_read_rules.specs.Scope.{seen}
use Rattle.no_read_constants.specs.Places.{an_index}
use Rattle.no_read_constants.proofs.places.more_indices.Given as goal

abbrev pub invariant-loop-all : goal.invariant-loop-all
invariant-loop-all l =
    let step = more_item (seen l.scope).text (codes ")") (an_index (seen l.scope)) in
    with_front l.all (repeat_all step tt l.rest) ≡ with_front (l.fn.first ∷ []) (repeat_all step tt l.tokens)

abbrev pub decreases-loop-all : goal.decreases-loop-all
decreases-loop-all l = length l.rest
