use Rattle.std.proofs.Common.{◌≡◌, take}
use Rattle.no_read_types.specs.Graph.{graph_of}
use Rattle.no_read_types.proofs.graph.graph_of.Given as goal

abbrev pub invariant-loop-definition : goal.invariant-loop-definition
invariant-loop-definition l = l.graph ≡ graph_of (take l.definition-index l.defined)
