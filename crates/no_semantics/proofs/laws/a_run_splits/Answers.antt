use Rattle.no_semantics.proofs.Running.{runs_resume, runs_split}
use Rattle.no_semantics.proofs.laws.a_run_splits.Goals as goal

pub returns-clause-joined : goal.returns-clause-joined
returns-clause-joined c = runs_resume

pub returns-clause-parted : goal.returns-clause-parted
returns-clause-parted c = runs_split
