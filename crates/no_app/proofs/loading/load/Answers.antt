use Rattle.std.proofs.Common.{Ok}
use Rattle.no_app.proofs.Meanings.{text_loads}
use Rattle.no_app.proofs.loading.load.Goals as goal

pub returns-in-Ok-clause-loads : goal.returns-in-Ok-clause-loads
returns-in-Ok-clause-loads c = text_loads c.args.text.now (Ok c.as_slice.result.now) c.read.result (rw c.as_slice.ensures c.in-Ok.ensures.lexes) c.read.ensures.loads
