use Rattle.no_semantics.proofs.Running.{runs_once}
use Rattle.no_semantics.proofs.laws.a_run_is_one.Goals as goal

pub returns : goal.returns
returns c = runs_once
