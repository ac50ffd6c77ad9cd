use Rattle.std.proofs.Common.{get_or, arith, subst, List, ℕ}
use Rattle.std.proofs.lemmas.List.{take_all}
use Rattle.no_calls.specs.Nearest.{IsNearest}
use Rattle.no_calls.specs.Spreading.{Reason}
use Rattle.no_calls.proofs.Nearer.{nearest_entry, nearest_sets}
use Rattle.no_calls.proofs.nearest.nearest_in.Goals as goal

pub loop-set-preserved : goal.loop-set-preserved
loop-set-preserved c = λ members far are.
    let sets = c.args.sets.now in
    let i = c.loop-set.set-index in
    nearest_sets sets i members far c.loop-set.best c.entry.result c.nearer-best.result (omega arith) c.nearer-best.ensures.one c.nearer-best.ensures.first c.nearer-best.ensures.second (c.loop-set.invariant members far are)
    (nearest_entry members far c.args.near.now (get_or sets i 0) c.entry.result c.entry.ensures are)

pub returns : goal.returns
returns c = λ members far are. subst (λ (l : List ℕ). IsNearest (Reason l members) far c.loop-set.best) (take_all c.loop-set.set-index c.args.sets.now (omega arith)) (c.loop-set.invariant members far are)
