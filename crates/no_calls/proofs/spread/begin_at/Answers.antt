use Rattle.no_calls.proofs.Finding.{noted_same}
use Rattle.no_calls.proofs.spread.begin_at.Goals as goal

pub returns-then-start-len-clause-noted : goal.returns-then-start-len-clause-noted
returns-then-start-len-clause-noted c = noted_same _ 0 c.args.found.now
