use Rattle.std.proofs.Common.{take}
use Rattle.no_code.specs.Making.{PutsArguments}
use Rattle.no_code.specs.Source.{source}
use Rattle.no_code.proofs.calls.arguments.Given as goal

abbrev pub invariant-loop-one : goal.invariant-loop-one
invariant-loop-one l = PutsArguments (source l.from.program.now l.from.layout.now l.from.sizes.now l.from.addresses.now) l.n l.fn.code l.code (take l.one-index l.given)
