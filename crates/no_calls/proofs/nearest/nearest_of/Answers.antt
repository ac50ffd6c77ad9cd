use Rattle.std.proofs.Common.{arith, subst, List, ℕ}
use Rattle.std.specs.List.{Contains}
use Rattle.std.proofs.lemmas.List.{take_all}
use Rattle.no_calls.specs.Nearest.{IsNearest}
use Rattle.no_calls.proofs.Nearer.{nearest_more}
use Rattle.no_calls.proofs.nearest.nearest_of.Goals as goal

pub loop-member-preserved : goal.loop-member-preserved
loop-member-preserved c =
    nearest_more c.args.members.now c.loop-member.member-index c.args.far.now c.loop-member.best c.placed.result c.nearer-best.result (omega arith) c.nearer-best.ensures.one c.nearer-best.ensures.first c.nearer-best.ensures.second c.loop-member.invariant c.placed.ensures

pub returns : goal.returns
returns c = subst (λ (l : List ℕ). IsNearest (Contains l) c.args.far.now c.loop-member.best) (take_all c.loop-member.member-index c.args.members.now (omega arith)) c.loop-member.invariant
