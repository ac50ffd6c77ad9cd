use Rattle.no_code.specs.Making.{PutsFunctions}
use Rattle.no_code.specs.Source.{source}
use Rattle.no_code.proofs.building.functions.Given as goal

abbrev pub invariant-loop-f : goal.invariant-loop-f
invariant-loop-f l = PutsFunctions (source l.from.program.now l.from.layout.now l.from.sizes.now l.from.addresses.now) l.from.program.now.functions l.f l.code
