use Rattle.no_progress.proofs.Finishing.{costs, finishes, entered_finishes}
use Rattle.no_progress.proofs.finish.runs_finish.Goals as goal

pub returns-clause-costs : goal.returns-clause-costs
returns-clause-costs c = costs

pub returns-clause-finish : goal.returns-clause-finish
returns-clause-finish c = λ p safe none left s is. let w = finishes p safe none left s is in (w.0, w.1)

pub returns-clause-entry : goal.returns-clause-entry
returns-clause-entry c = entered_finishes
