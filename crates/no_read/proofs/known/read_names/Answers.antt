use Rattle.no_read.proofs.KnowingLaws.{only_known}
use Rattle.no_read.proofs.known.read_names.Goals as goal

pub returns-clause-only : goal.returns-clause-only
returns-clause-only c = λ answer q. only_known c.names_in.result c.args.text.now c.args.tokens.now answer c.names_in.ensures q
