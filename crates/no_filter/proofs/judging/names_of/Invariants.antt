use Rattle.std.proofs.Common.{◌≡◌, take}
use Rattle.no_filter.specs.Verdicts.{names_of}
use Rattle.no_filter.proofs.judging.names_of.Given as goal

abbrev pub invariant-loop-k : goal.invariant-loop-k
invariant-loop-k l = l.names ≡ names_of l.program (take l.k-index l.path)
