use Rattle.no_app.proofs.Meanings.{read_loads}
use Rattle.no_app.proofs.loading.read.Goals as goal

pub returns-in-Ok-clause-loads : goal.returns-in-Ok-clause-loads
returns-in-Ok-clause-loads c = read_loads c.args.text.now c.args.tokens.now c.in-Ok.program c.accepted.result c.in-Ok.ensures.reads c.accepted.ensures.loads
