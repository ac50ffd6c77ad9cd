use Rattle.no_code.specs.Making.{LeadsOn, PutsSteps}
use Rattle.no_code.specs.Source.{source}
use Rattle.no_code.proofs.paths.path.Given as goal

abbrev pub invariant-loop-k : goal.invariant-loop-k
invariant-loop-k l = PutsSteps l.fn.code l.code (LeadsOn (source l.from.program.now l.from.layout.now l.from.sizes.now l.from.addresses.now) l.n l.t l.indices l.k l.at)
