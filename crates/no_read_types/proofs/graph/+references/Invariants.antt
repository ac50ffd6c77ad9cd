use Rattle.std.proofs.Common.{◌≡◌, ◌++◌, drop, map}
use Rattle.no_read_types.specs.Graph.{joined, references}
use Rattle.no_read_types.proofs.graph.+references.Given as goal

abbrev pub invariant-add_all-loop-ty : goal.invariant-add_all-loop-ty
invariant-add_all-loop-ty l = l.all ++ joined (map references (drop l.ty-index l.types)) ≡ l.fn.all ++ joined (map references l.types)
