use Rattle.std.proofs.Common.{◌≡◌, drop}
use Rattle.no_code.specs.Coded.{first_from}
use Rattle.no_code.proofs.edges.unnamed.Given as goal

abbrev pub invariant-loop-index : goal.invariant-loop-index
invariant-loop-index l = first_from l.to l.index (drop l.index l.g.blocks) ≡ first_from l.to 0 l.g.blocks
