use Rattle.no_app.proofs.LastLines.{tells, concludes, refused_so}
use Rattle.no_app.proofs.top.command.Goals as goal

-- the line is that of the outcome that was reached, or a prefix of it
pub returns-clause-told : goal.returns-clause-told
returns-clause-told g c = tells c.perform-outcome.result c.tell.result _ _ _ _ _ c.perform-outcome.ensures.says c.tell.ensures

pub returns-clause-says : goal.returns-clause-says
returns-clause-says g c = concludes c.perform-outcome.result c.tell.result _ _ _ _ _ c.perform-outcome.ensures.says c.tell.ensures

pub returns-clause-untouched : goal.returns-clause-untouched
returns-clause-untouched g c = λ refusal. c.perform-outcome.ensures.untouched (refused_so c.perform-outcome.result c.tell.result _ _ _ _ c.tell.ensures refusal)
