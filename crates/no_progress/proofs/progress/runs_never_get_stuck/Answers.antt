use Rattle.no_progress.proofs.Acts.{not_stuck, goes_on, steps_fine}
use Rattle.no_progress.proofs.progress.runs_never_get_stuck.Goals as goal

pub returns-clause-never : goal.returns-clause-never
returns-clause-never c = not_stuck

pub returns-clause-goes : goal.returns-clause-goes
returns-clause-goes c = goes_on

pub returns-clause-stands : goal.returns-clause-stands
returns-clause-stands c = steps_fine
