use Rattle.no_safe.proofs.Accepting.{own, runs}
use Rattle.no_safe.proofs.laws.accepted_sources_finish.Goals as goal

pub returns : goal.returns
returns c = λ m a is. runs a (own m a is)
