use Rattle.std.proofs.Common.{take}
use Rattle.no_code.specs.Making.{PutsParameters}
use Rattle.no_code.proofs.building.parameters.Given as goal

abbrev pub invariant-loop-one : goal.invariant-loop-one
invariant-loop-one l = PutsParameters l.fn.code l.code (take l.one-index l.given)
