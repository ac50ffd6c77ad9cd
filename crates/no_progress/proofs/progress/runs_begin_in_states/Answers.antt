use Rattle.no_progress.proofs.Beginning.{begins, enters}
use Rattle.no_progress.proofs.progress.runs_begin_in_states.Goals as goal

pub returns-clause-main : goal.returns-clause-main
returns-clause-main c = begins

pub returns-clause-entry : goal.returns-clause-entry
returns-clause-entry c = enters
