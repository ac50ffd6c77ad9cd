use Rattle.std.proofs.Common.{subst, List, ℕ}
use Rattle.std.specs.Prelude.{Option}
use Rattle.no_calls.specs.Calling.{MayCall}
use Rattle.no_calls.specs.Reaching.{IsShortest}
use Rattle.no_filter.proofs.judging.path_to.Goals as goal

pub returns-in-None : goal.returns-in-None
returns-in-None c = subst (λ (o : Option (List ℕ)). IsShortest (MayCall c.args.program.now) c.args.goals.now c.args.f o) c.in-None.is (c.in_ok-path.ensures c.args.program.now c.requires.graph)
