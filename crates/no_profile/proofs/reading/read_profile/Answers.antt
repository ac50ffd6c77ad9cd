use Rattle.no_profile.proofs.FirstWrong.{told_first}
use Rattle.no_profile.proofs.Judging.{told_ranged}
use Rattle.no_profile.proofs.reading.read_profile.Goals as goal

pub returns-in-Ok-clause-ranged : goal.returns-in-Ok-clause-ranged
returns-in-Ok-clause-ranged c = told_ranged c.in-Ok.ensures.0 c.judged.result (c.judged.ensures c.in-Ok.ensures.0 c.in-Ok.ensures.1)

pub returns-in-Ok-clause-first : goal.returns-in-Ok-clause-first
returns-in-Ok-clause-first c = told_first c.args.text.now c.in-Ok.ensures.0 c.judged.result c.in-Ok.ensures.2 (c.judged.ensures c.in-Ok.ensures.0 c.in-Ok.ensures.1)
