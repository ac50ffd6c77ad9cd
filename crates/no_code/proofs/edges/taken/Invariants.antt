use Rattle.std.proofs.Common.{◌≡◌, drop}
use Rattle.no_code.specs.Coded.{incoming}
use Rattle.no_code.proofs.edges.taken.Given as goal

abbrev pub invariant-loop-pair : goal.invariant-loop-pair
invariant-loop-pair l = incoming l.label (drop l.pair-index l.pairs) ≡ incoming l.label l.pairs
