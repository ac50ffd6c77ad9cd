use Rattle.std.proofs.Common.{take}
use Rattle.no_code.specs.Making.{PutsCases}
use Rattle.no_code.specs.Source.{source}
use Rattle.no_code.proofs.control.cases.Given as goal

abbrev pub invariant-loop-one : goal.invariant-loop-one
invariant-loop-one l = PutsCases (source l.from.program.now l.from.layout.now l.from.sizes.now l.from.addresses.now) l.g l.frame l.fn.code l.code (take l.one-index l.given)
