use Rattle.no_safe.proofs.Accepting.{own, is_safe, has_main}
use Rattle.no_safe.proofs.laws.accepted_sources_are_safe.Goals as goal

pub returns-clause-safe : goal.returns-clause-safe
returns-clause-safe c = λ m a is. is_safe a (own m a is)

pub returns-clause-main : goal.returns-clause-main
returns-clause-main c = λ m a is. (has_main a (own m a is)).main
